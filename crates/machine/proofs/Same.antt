-- What compares equal is equal.
use Rattle.std.proofs.Common.{◌≡◌, true, ◌&&◌, eqb, refl, subst, arith}
use Rattle.std.proofs.lemmas.Bool.{eqb-true, and_parts}
use Rattle.std.proofs.lemmas.Bool.Decides.{nat_tests}
use Rattle.format.specs.declared.lease.Kind.{Kind}
use Rattle.format.specs.declared.lease.Kind.TheVariants.{Free, Owned}
use Rattle.format.specs.declared.lease.Mark.{Mark}
use Rattle.format.specs.declared.lease.LeaseRecord.{LeaseRecord}
use Rattle.machine.specs.Seats.{same_mark, same_kind, same_record}

-- comparisons say what they seem to
pub mark_same : (a b : Mark) → same_mark a b ≡ true → a ≡ b
mark_same a b e =
    let p = and_parts (eqb a.owner b.owner) (eqb a.generation b.generation && eqb a.stamp b.stamp) e in
    let q = and_parts (eqb a.generation b.generation) (eqb a.stamp b.stamp) p.1 in
    λ i. record { owner = eqb-true a.owner b.owner p.0 i; generation = eqb-true a.generation b.generation q.0 i; stamp = eqb-true a.stamp b.stamp q.1 i }

-- equal marks compare equal
pub mark_self : (a b : Mark) → a ≡ b → same_mark a b ≡ true
mark_self a b e = subst (λ (c : Mark). same_mark a c ≡ true) e (grind (arith, nat_tests))

-- so for kinds
pub kind_same : (a b : Kind) → same_kind a b ≡ true → a ≡ b
kind_same Free Free e = refl
kind_same Free Owned e = cc
kind_same Owned Free e = cc
kind_same Owned Owned e = refl

-- so for records
pub record_same : (a b : LeaseRecord) → same_record a b ≡ true → a ≡ b
record_same a b e =
    let p = and_parts (same_kind a.kind b.kind) (eqb a.resource b.resource && (same_mark a.mark b.mark && eqb a.term b.term)) e in
    let q = and_parts (eqb a.resource b.resource) (same_mark a.mark b.mark && eqb a.term b.term) p.1 in
    let r = and_parts (same_mark a.mark b.mark) (eqb a.term b.term) q.1 in
    λ i. record { kind = kind_same a.kind b.kind p.0 i; resource = eqb-true a.resource b.resource q.0 i; mark = mark_same a.mark b.mark r.0 i; term = eqb-true a.term b.term r.1 i }
