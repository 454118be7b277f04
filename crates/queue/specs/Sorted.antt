-- The list that a queue keeps, in the order of handing out.
use Rattle.std.specs.Prelude.{ℕ, cond, List, [], ◌∷◌, length, Some, None, Ok, Err, Option, Result, nat_lt}
use Rattle.disk.specs.declared.fault.Refusal.{Refusal}
use Rattle.disk.specs.declared.fault.Refusal.TheVariants.{QueueFull}
use Rattle.queue.specs.Schedule.{Schedule}

-- an entry goes in front of the first that comes later
abbrev pub placed : {X : Type 0} → Schedule X → X → List X → List X
placed s e [] = e ∷ []
placed s e (x ∷ xs) = cond (s.no_later x e) (x ∷ placed s e xs) (e ∷ x ∷ xs)

-- a push is refused where the list is full
abbrev pub push_answer : {X : Type 0} → ℕ → List X → Result (Unit {0}) Refusal
push_answer capacity xs = cond (nat_lt (length xs) capacity) (Ok tt) (Err QueueFull)

abbrev pub after_push : {X : Type 0} → Schedule X → ℕ → X → List X → List X
after_push s capacity e xs = cond (nat_lt (length xs) capacity) (placed s e xs) xs

-- a take hands out the first entry if it is due
abbrev pub take_answer : {X : Type 0} → Schedule X → ℕ → List X → Option X
take_answer s t [] = None
take_answer s t (x ∷ xs) = cond (s.is_due t x) (Some x) None

abbrev pub after_take : {X : Type 0} → Schedule X → ℕ → List X → List X
after_take s t [] = []
after_take s t (x ∷ xs) = cond (s.is_due t x) xs (x ∷ xs)
