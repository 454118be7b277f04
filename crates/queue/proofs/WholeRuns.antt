-- Over every run the answers are those that the waiting entries call for, and no entry is lost or handed out twice.
use Rattle.std.proofs.Common.{◌≡◌, ℕ, Bool, true, false, cond, ltb, List, [], ◌∷◌, ◌++◌, length, Some, None, Ok, Err, sym, refl, subst}
use Rattle.std.specs.List.Sorted.{IsPermutation}
use Rattle.std.proofs.lemmas.List.{append-nil}
use Rattle.std.proofs.lemmas.List.Sorted.{IsPermutation-refl, IsPermutation-cons, IsPermutation-middle, IsPermutation-trans}
use Rattle.std.proofs.lemmas.Bool.{cond_both}
use Rattle.disk.specs.declared.fault.Refusal.TheVariants.{QueueFull}
use Rattle.queue.specs.Schedule.{Schedule}
use Rattle.queue.specs.Sorted.{placed, push_answer, after_push, take_answer, after_take}
use Rattle.queue.specs.Waiting.{queue_of}
use Rattle.queue.specs.Runs.{Action, Event, push_of, take_at, pushed, taken, event, after, events, after_run, accepted, handed_out, Outcome, Outcomes, RunLaw}
use Rattle.queue.proofs.Order.{Lawful, push_law, take_law}

module _ {X : Type 0} (s : Schedule X) (capacity : ℕ) where
  to_place : (e : X) (xs zs : List X) → IsPermutation (xs ++ e ∷ zs) (placed s e xs ++ zs)
  to_place e [] zs = IsPermutation-refl (e ∷ zs)
  to_place e (x ∷ xs) zs =
      cond_both (s.no_later x e) (x ∷ placed s e xs) (e ∷ x ∷ xs) (λ ys. IsPermutation (x ∷ (xs ++ e ∷ zs)) (ys ++ zs))
      (λ _. IsPermutation-cons x (xs ++ e ∷ zs) (placed s e xs ++ zs) (to_place e xs zs)) (λ _. IsPermutation-middle (x ∷ xs) e zs)

  -- what the list held and what was accepted is what was handed out and what the list holds
  abbrev Keeps : List (Action X) → List X → Type 0
  Keeps run xs = IsPermutation (xs ++ accepted (events s capacity run xs)) (handed_out (events s capacity run xs) ++ after_run s capacity run xs)

  -- the same of a run that begins with an event, which changes the list xs to ys
  abbrev KeepsAfter : List (Action X) → Event X → List X → List X → Type 0
  KeepsAfter run e xs ys = IsPermutation (xs ++ accepted (e ∷ events s capacity run ys)) (handed_out (e ∷ events s capacity run ys) ++ after_run s capacity run ys)

  push_keeps : (run : List (Action X)) (e : X) (xs : List X) → ((ys : List X) → Keeps run ys)
      → (b : Bool) → KeepsAfter run (pushed e (cond b (Ok tt) (Err QueueFull))) xs (cond b (placed s e xs) xs)
  push_keeps run e xs rest true =
      let es = accepted (events s capacity run (placed s e xs)) in
      IsPermutation-trans _ (placed s e xs ++ es) _ (to_place e xs es) (rest (placed s e xs))
  push_keeps run e xs rest false = rest xs

  take_keeps : (run : List (Action X)) (t : ℕ) (x : X) (xs : List X) → ((ys : List X) → Keeps run ys)
      → (b : Bool) → KeepsAfter run (taken t (cond b (Some x) None)) (x ∷ xs) (cond b xs (x ∷ xs))
  take_keeps run t x xs rest true = IsPermutation-cons x _ _ (rest xs)
  take_keeps run t x xs rest false = rest (x ∷ xs)

  keeps : (run : List (Action X)) (xs : List X) → Keeps run xs
  keeps [] xs = subst (λ ys. IsPermutation ys xs) (sym (append-nil xs)) (IsPermutation-refl xs)
  keeps (push_of e ∷ run) xs = push_keeps run e xs (keeps run) (ltb (length xs) capacity)
  keeps (take_at t ∷ run) [] = keeps run []
  keeps (take_at t ∷ run) (x ∷ xs) = take_keeps run t x xs (keeps run) (s.is_due t x)

  module _ (lawful : Lawful s) where
    -- one action
    one : (a : Action X) (waiting xs : List X) → xs ≡ queue_of s waiting
        → (next : List X) × (Outcome s capacity (event s capacity a xs) waiting next × (after s capacity a xs ≡ queue_of s next))
    one (push_of e) waiting xs holds = push_law s capacity e xs (push_answer capacity xs) (after_push s capacity e xs) refl refl waiting holds
    one (take_at t) waiting xs holds = take_law s lawful t xs (take_answer s t xs) (after_take s t xs) refl refl waiting holds

    all : (run : List (Action X)) (waiting xs : List X) → xs ≡ queue_of s waiting
        → (left : List X) × (Outcomes s capacity (events s capacity run xs) waiting left × (after_run s capacity run xs ≡ queue_of s left))
    all [] waiting xs holds = (waiting, (refl, holds))
    all (a ∷ run) waiting xs holds =
        let first = one a waiting xs holds in
        let rest = all run first.0 (after s capacity a xs) first.1.1 in
        (rest.0, ((first.0, (first.1.0, rest.1.0)), rest.1.1))

    pub run_law : RunLaw s capacity
    run_law run =
        let r = all run [] [] refl in
        record { left = r.0; outcomes = r.1.0; holds = r.1.1; kept = keeps run [] }
