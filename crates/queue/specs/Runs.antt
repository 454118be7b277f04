-- What a queue does over a whole run of pushes and takes.
use Rattle.std.specs.Prelude.{◌≡◌, ℕ, List, [], ◌∷◌, ◌++◌, Some, None, Ok, Err, Option, Result}
use Rattle.std.specs.List.Sorted.{IsPermutation}
use Rattle.disk.specs.declared.fault.Refusal.{Refusal}
use Rattle.queue.specs.Schedule.{Schedule}
use Rattle.queue.specs.Sorted.{push_answer, after_push, take_answer, after_take}
use Rattle.queue.specs.Waiting.{queue_of, PushOutcome, TakeOutcome}

-- a push of an entry, or a take at a tick
pub data Action (X : Type 0) : Type 0 where
  push_of : X → Action X
  take_at : ℕ → Action X

-- the same with its answer
pub data Event (X : Type 0) : Type 0 where
  pushed : X → Result (Unit {0}) Refusal → Event X
  taken : ℕ → Option X → Event X

-- one action on the list that a queue keeps
abbrev pub event : {X : Type 0} → Schedule X → ℕ → Action X → List X → Event X
event s capacity (push_of e) xs = pushed e (push_answer capacity xs)
event s capacity (take_at t) xs = taken t (take_answer s t xs)

abbrev pub after : {X : Type 0} → Schedule X → ℕ → Action X → List X → List X
after s capacity (push_of e) xs = after_push s capacity e xs
after s capacity (take_at t) xs = after_take s t xs

-- a run of actions
abbrev pub events : {X : Type 0} → Schedule X → ℕ → List (Action X) → List X → List (Event X)
events s capacity [] xs = []
events s capacity (a ∷ run) xs = event s capacity a xs ∷ events s capacity run (after s capacity a xs)

abbrev pub after_run : {X : Type 0} → Schedule X → ℕ → List (Action X) → List X → List X
after_run s capacity [] xs = xs
after_run s capacity (a ∷ run) xs = after_run s capacity run (after s capacity a xs)

-- the entries that were accepted, in the order of the pushes
abbrev pub accepted : {X : Type 0} → List (Event X) → List X
accepted [] = []
accepted (pushed e (Ok _) ∷ rest) = e ∷ accepted rest
accepted (pushed e (Err _) ∷ rest) = accepted rest
accepted (taken t r ∷ rest) = accepted rest

-- the entries that were handed out, in the order of the takes
abbrev pub handed_out : {X : Type 0} → List (Event X) → List X
handed_out [] = []
handed_out (pushed e r ∷ rest) = handed_out rest
handed_out (taken t (Some x) ∷ rest) = x ∷ handed_out rest
handed_out (taken t None ∷ rest) = handed_out rest

-- an event as the waiting entries call for it; `next` wait after it
abbrev pub Outcome : {X : Type 0} → Schedule X → ℕ → Event X → List X → List X → Type 0
Outcome s capacity (pushed e r) waiting next = PushOutcome capacity e waiting r next
Outcome s capacity (taken t r) waiting next = TakeOutcome s t waiting r next

-- the same of each event of a run, one after the other; `left` wait at the end
abbrev pub Outcomes : {X : Type 0} → Schedule X → ℕ → List (Event X) → List X → List X → Type 0
Outcomes s capacity [] waiting left = left ≡ waiting
Outcomes {X} s capacity (e ∷ rest) waiting left = (next : List X) × (Outcome s capacity e waiting next × Outcomes s capacity rest next left)

-- a run from an empty queue: every answer is the one that the waiting entries call for, and the accepted entries are
-- those that were handed out and those that the queue still holds, each as often
pub record Ran {X : Type 0} (s : Schedule X) (capacity : ℕ) (run : List (Action X)) : Type 0 where
  pub left : List X
  pub outcomes : Outcomes s capacity (events s capacity run []) [] left
  pub holds : after_run s capacity run [] ≡ queue_of s left
  pub kept : IsPermutation (accepted (events s capacity run [])) (handed_out (events s capacity run []) ++ after_run s capacity run [])

-- whatever the actions
abbrev pub RunLaw : {X : Type 0} → Schedule X → ℕ → Type 0
RunLaw {X} s capacity = (run : List (Action X)) → Ran s capacity run
