-- A block decodes to a record exactly when it is the block that this record writes.
use Rattle.std.proofs.Common.{◌≡◌, ℕ, ◌+◌, ◌*◌, ◌<◌, Bool, true, false, cond, ◌&&◌, List, length, get_or, Ok, Err, Option, Decides, sym, refl, ap, ◌∙◌, arith}
use Rattle.std.proofs.lemmas.Bool.{and_parts}
use Rattle.std.proofs.lemmas.Bool.Decides.{nat_tests, Decides-and}
use Rattle.disk.specs.declared.fault.Refusal.TheVariants.{NotARecord}
use Rattle.format.specs.declared.lease.Kind.{Kind}
use Rattle.format.specs.declared.lease.Kind.TheVariants.{Free, Owned}
use Rattle.format.specs.declared.lease.LeaseRecord.{LeaseRecord}
use Rattle.format.specs.Blocks.{valid, in_range, fits_kind, block_of, Written, same_bytes, kind_number, kind_of, fields_of, decoded}
use Rattle.std.specs.Option.{ok_or}
use Rattle.std.specs.Bool.{then_some}
use Rattle.format.proofs.Candidates.{Found, passed, one_found, exactly}
use Rattle.std.proofs.lemmas.Slice.Eq.{compares_Decides}
use Rattle.format.proofs.ByteOrder.{byte_order}

-- the numbers of a valid record fit the bytes that store them
pub record Fits (x : LeaseRecord) : Type 0 where
  pub generation : x.mark.generation < 65536
  pub stamp : x.mark.stamp < 4294967296
  pub term : x.term < 4294967296

valid_fits : (x : LeaseRecord) → valid x ≡ true → Fits x
valid_fits x v =
    let range : in_range x ≡ true = (and_parts (in_range x) (fits_kind x.kind x) v).0 in
    record { generation = grind (arith, nat_tests); stamp = grind (arith, nat_tests); term = grind (arith, nat_tests) }

kind_back : (k : Kind) → kind_of (kind_number k) ≡ k
kind_back Free = refl
kind_back Owned = refl

pub length_block : (x : LeaseRecord) → length (block_of x) ≡ 512
unfolding block_of
length_block x = refl

-- what the code reads of a block is what its record has
of_block : (x : LeaseRecord) → Fits x → (kind : Kind) (g s t : ℕ)
    → get_or (block_of x) 3 0 ≡ kind_number kind
    → g ≡ get_or (block_of x) 6 0 * 256 + get_or (block_of x) 7 0
    → s ≡ get_or (block_of x) 8 0 * 16777216 + get_or (block_of x) 9 0 * 65536 + get_or (block_of x) 10 0 * 256 + get_or (block_of x) 11 0
    → t ≡ get_or (block_of x) 12 0 * 16777216 + get_or (block_of x) 13 0 * 65536 + get_or (block_of x) 14 0 * 256 + get_or (block_of x) 15 0
    → x ≡ record { kind = kind; resource = get_or (block_of x) 4 0; mark = record { owner = get_or (block_of x) 5 0; generation = g; stamp = s }; term = t }
unfolding block_of
of_block x f kind g s t ek eg es et =
    let k : x.kind ≡ kind = sym (kind_back x.kind) ∙ ap kind_of ek ∙ kind_back kind in
    let generation : x.mark.generation ≡ g = let b = byte_order.number_back 2 x.mark.generation f.generation in omega arith in
    let stamp : x.mark.stamp ≡ s = let b = byte_order.number_back 4 x.mark.stamp f.stamp in omega arith in
    let term : x.term ≡ t = let b = byte_order.number_back 4 x.term f.term in omega arith in
    λ i. record { kind = k i; resource = x.resource; mark = record { owner = x.mark.owner; generation = generation i; stamp = stamp i }; term = term i }

pub of_bytes : (x : LeaseRecord) (b : List ℕ) → Written x b → (kind : Kind) (g s t : ℕ)
    → get_or b 3 0 ≡ kind_number kind
    → g ≡ get_or b 6 0 * 256 + get_or b 7 0
    → s ≡ get_or b 8 0 * 16777216 + get_or b 9 0 * 65536 + get_or b 10 0 * 256 + get_or b 11 0
    → t ≡ get_or b 12 0 * 16777216 + get_or b 13 0 * 65536 + get_or b 14 0 * 256 + get_or b 15 0
    → x ≡ record { kind = kind; resource = get_or b 4 0; mark = record { owner = get_or b 5 0; generation = g; stamp = s }; term = t }
of_bytes x b w kind g s t = rw w.1 (of_block x (valid_fits x w.0) kind g s t)

-- byte 3 of a record's block is the number of its kind
pub kind_of_bytes : (x : LeaseRecord) (b : List ℕ) → Written x b → get_or b 3 0 ≡ kind_number x.kind
unfolding block_of
kind_of_bytes x b w = ap (λ l. get_or l 3 0) w.1

fields_back : (x : LeaseRecord) → Fits x → fields_of (block_of x) ≡ x
unfolding block_of
fields_back x f =
    rw (kind_back x.kind, byte_order.number_back 2 x.mark.generation f.generation, byte_order.number_back 4 x.mark.stamp f.stamp, byte_order.number_back 4 x.term f.term)

same : (xs ys : List ℕ) → Decides (same_bytes xs ys) (xs ≡ ys)
same = compares_Decides same_bytes (record { empty = refl; shorter = λ y ys. refl; longer = λ x xs. refl; heads = λ x y xs ys. refl })

module _ (b : List ℕ) where
  -- the test that decoding makes of the fields that stand in the bytes
  passes : Bool
  passes = valid (fields_of b) && same_bytes b (block_of (fields_of b))

  kept : Option LeaseRecord
  kept = then_some passes (fields_of b)

  kept_found : Found (λ x. Written x b) kept
  unfolding passes kept
  kept_found =
      passed (λ x. Written x b) passes (fields_of b) kept (λ x w. sym (ap fields_of w.1 ∙ fields_back x (valid_fits x w.0)))
      (Decides-and (valid (fields_of b)) (same_bytes b (block_of (fields_of b))) (λ e. e, λ e. e) (same b (block_of (fields_of b))))
      refl

  answer : (t : Bool) (y : LeaseRecord) → cond t (Ok y) (Err NotARecord) ≡ ok_or (then_some t y) NotARecord
  answer true y = refl
  answer false y = refl

  decoded_is : decoded b ≡ ok_or kept NotARecord
  unfolding decoded passes kept
  decoded_is = answer passes (fields_of b)

  -- a record is decoded exactly from its block
  pub exact : (x : LeaseRecord) → (decoded b ≡ Ok x → Written x b) × (Written x b → decoded b ≡ Ok x)
  exact x =
      let e = exactly (λ y. Written y b) NotARecord kept kept_found x in
      (λ o. e.0 (sym decoded_is ∙ o), λ w. decoded_is ∙ e.1 w)

  -- what is found is what is decoded
  pub found : (r : Option LeaseRecord) → Found (λ x. Written x b) r → ok_or r NotARecord ≡ decoded b
  found r f = ap (λ s. ok_or s NotARecord) (one_found (λ x. Written x b) r kept f kept_found) ∙ sym decoded_is

pub decodes : (x : LeaseRecord) (b : List ℕ) → Written x b → decoded b ≡ Ok x
decodes x b w = (exact b x).1 w
