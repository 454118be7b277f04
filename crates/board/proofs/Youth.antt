-- The writes that can still land, as a filter.
use Rattle.std.proofs.Common.{◌≡◌, ℕ, ◌+◌, Bool, true, false, cond, not, ltb, List, ◌∷◌, filter, refl}
use Rattle.std.proofs.lemmas.List.Recursion.{same_from_clauses}
use Rattle.machine.specs.declared.types.Flight.{Flight}
use Rattle.machine.specs.Setup.{younger}

-- a write can still land
abbrev pub young : ℕ → ℕ → Flight → Bool
young delay tick f = not (ltb (f.issued.0 + delay) tick)

either : {A : Type 0} (b : Bool) (x y : A) → cond (not b) y x ≡ cond b x y
either true x y = refl
either false x y = refl

-- the filter keeps just those
pub younger_kept : (delay tick : ℕ) (fs : List Flight) → younger delay tick fs ≡ filter (young delay tick) fs
younger_kept delay tick =
    let old : Flight → Bool = λ f. ltb (f.issued.0 + delay) tick in
    same_from_clauses (younger delay tick) (filter (young delay tick)) (λ f rest. cond (old f) rest (f ∷ rest)) refl (λ f fs. refl) (λ f fs. either (old f) (filter (young delay tick) fs) (f ∷ filter (young delay tick) fs))
