-- The records that a room writes are read back, and a spoiled block is none.
use Rattle.std.proofs.Common.{◌≡◌, ◌<◌, ◌≤◌, true, ◌⊎◌, Some, None, refl, ap, inl, inr, arith}
use Rattle.std.proofs.lemmas.Bool.{and_from, or_left, or_right}
use Rattle.std.proofs.lemmas.Bool.Decides.{nat_tests}
use Rattle.format.specs.declared.lease.Kind.{Kind}
use Rattle.format.specs.declared.lease.Kind.TheVariants.{Free, Owned}
use Rattle.format.specs.declared.lease.LeaseRecord.{LeaseRecord}
use Rattle.format.specs.Blocks.{in_range, fits_kind, used, unused, block_of, decoded}
use Rattle.format.proofs.Decoding.{decodes}
use Rattle.machine.specs.View.{record_by, record_of}
use Rattle.machine.specs.Writes.{spoiled_block}

-- a valid record by its numbers
pub record Valid (x : LeaseRecord) : Type 0 where
  pub resource : x.resource < 8
  pub owner : x.mark.owner < 16
  pub generation : x.mark.generation < 65536
  pub stamp : x.mark.stamp < 10000
  pub term : x.term < 1000000
  pub marked : ((x.kind ≡ Free) × (x.mark.owner ≡ 0) × (x.mark.generation ≡ 0) × (x.mark.stamp ≡ 0) × (x.term ≡ 0)) ⊎ ((1 ≤ x.mark.generation) × (1 ≤ x.mark.stamp) × (1 ≤ x.term))

in_range_of : (x : LeaseRecord) → Valid x → in_range x ≡ true
in_range_of x v =
    let a = v.resource in
    let b = v.owner in
    let c = v.generation in
    let d = v.stamp in
    let e = v.term in
    grind (arith, nat_tests)

is_used : (x : LeaseRecord) → 1 ≤ x.mark.generation → 1 ≤ x.mark.stamp → 1 ≤ x.term → used x ≡ true
is_used x a b c = grind (arith, nat_tests)

is_unused : (x : LeaseRecord) → x.mark.owner ≡ 0 → x.mark.generation ≡ 0 → x.mark.stamp ≡ 0 → x.term ≡ 0 → unused x ≡ true
is_unused x a b c d = grind (arith, nat_tests)

fits_of : (x : LeaseRecord) (kind : Kind) → x.kind ≡ kind → Valid x → fits_kind kind x ≡ true
fits_of x Free e v = elim v.marked [
  | inl u ↦ or_right (used x) (unused x) (is_unused x u.1 u.2 u.3 u.4)
  | inr u ↦ or_left (used x) (unused x) (is_used x u.0 u.1 u.2)
]
fits_of x Owned e v = elim v.marked [
  | inl u ↦ cc
  | inr u ↦ is_used x u.0 u.1 u.2
]

pub reads_back : (x : LeaseRecord) → Valid x → record_of (block_of x) ≡ Some x
reads_back x v = ap record_by (decodes x (block_of x) (and_from (in_range x) (fits_kind x.kind x) (in_range_of x v) (fits_of x x.kind refl v), refl))

pub spoiled : record_of spoiled_block ≡ None
unfolding decoded
spoiled = refl
