-- Where a search through the writes in flight comes to.
use Rattle.std.proofs.Common.{◌≡◌, ℕ, suc, ◌+◌, ◌≤◌, Bool, true, false, cond, not, ltb, List, [], ◌∷◌, ◌++◌, length, get_or, take, Some, None, Option, sym, refl, ap, ◌∙◌, inl, inr, arith, append-nil, take_all, drop_of_length-le}
use Rattle.std.specs.List.{find as first, position, position_or_len, remove}
use Rattle.std.specs.Option.{option_map}
use Rattle.std.proofs.lemmas.Bool.{cases_Bool, cond-true, cond-false, ltb-true, ltb-false}
use Rattle.std.proofs.lemmas.List.Folds.{find_at}
use Rattle.std.proofs.lemmas.List.Recursion.{same_from_clauses}
use Rattle.std.proofs.lemmas.Option.{slice_get-get_or, slice_get_past}
use Rattle.format.specs.declared.lease.Kind.TheVariants.{Free}
use Rattle.format.specs.declared.lease.Mark.{Mark}
use Rattle.machine.specs.declared.types.Flight.{Flight}
use Rattle.machine.specs.Seats.{same_mark}
use Rattle.machine.specs.Writes.{find, removed}

-- whether a write has the mark
abbrev pub marked : Mark → Flight → Bool
marked mark f = same_mark f.body.mark mark

-- the write that a mark names is the first that has it
found : (mark : Mark) (fs : List Flight) → find mark fs ≡ first (marked mark) fs
found mark = same_from_clauses (find mark) (first (marked mark)) (λ f rest. cond (marked mark f) (Some f) rest) refl (λ f fs. refl) (λ f fs. refl)

-- what is left without that write is what is left without the one at its place
removed_at : (mark : Mark) (fs : List Flight) → removed mark fs ≡ remove fs (position_or_len (marked mark) fs)
removed_at mark [] = refl
removed_at mark (f ∷ fs) = step (marked mark f) (removed_at mark fs)
  where
    n : ℕ
    n = position_or_len (marked mark) fs

    step : (b : Bool) → removed mark fs ≡ remove fs n → cond b fs (f ∷ removed mark fs) ≡ remove (f ∷ fs) (cond (not b) (1 + n) 0)
    step true e = refl
    step false e = let next : 1 + n ≡ suc n = omega arith in rw next (ap (λ (gs : List Flight). f ∷ gs) e)

-- a list without the element at a place, if there is one
abbrev pub without : List Flight → Option ℕ → List Flight
without fs None = fs
without fs (Some at) = remove fs at

-- what an index past the end would read
abbrev pub no_flight : Flight
no_flight = record { body = record { kind = Free; resource = 0; mark = record { owner = 0; generation = 0; stamp = 0 }; term = 0 }; issued = record { 0 = 0 } }

-- the first write that has a mark stands at this place
pub record Placed (mark : Mark) (fs : List Flight) (at : Option ℕ) : Type 0 where
  pub is : find mark fs ≡ option_map (λ i. get_or fs i no_flight) at
  pub rest : removed mark fs ≡ without fs at

pub placed : (mark : Mark) (fs : List Flight) (at : Option ℕ) → at ≡ position (marked mark) fs → Placed mark fs at
placed mark fs at e = elim (cases_Bool (ltb n (length fs))) [
  | inl within ↦
      let s = e ∙ cond-true (ltb n (length fs)) (Some n) None within in
      record {
        is = found mark fs ∙ find_at (marked mark) fs ∙ slice_get-get_or fs n no_flight (ltb-true n (length fs) within) ∙ sym (ap (option_map (λ i. get_or fs i no_flight)) s);
        rest = removed_at mark fs ∙ sym (ap (without fs) s);
      }
  | inr past ↦
      let l : length fs ≤ n = ltb-false n (length fs) past in
      let beyond : length fs ≤ suc n = omega arith in
      let s = e ∙ cond-false (ltb n (length fs)) (Some n) None past in
      record {
        is = found mark fs ∙ find_at (marked mark) fs ∙ slice_get_past fs n l ∙ sym (ap (option_map (λ i. get_or fs i no_flight)) s);
        rest = removed_at mark fs ∙ ap (λ (gs : List Flight). take n fs ++ gs) (drop_of_length-le fs beyond) ∙ append-nil (take n fs) ∙ take_all n fs l ∙ sym (ap (without fs) s);
      }
]
  where
    n : ℕ
    n = position_or_len (marked mark) fs
