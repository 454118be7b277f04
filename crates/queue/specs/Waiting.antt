-- What a push and a take do, told by the entries that wait, in the order in which they were pushed.
use Rattle.std.specs.Prelude.{◌≡◌, ℕ, ◌<◌, ◌≤◌, true, false, List, [], ◌∷◌, ◌++◌, length, Some, None, Ok, Err, fold, Option, Result}
use Rattle.std.specs.List.{AllByRecursion}
use Rattle.disk.specs.declared.fault.Refusal.{Refusal}
use Rattle.disk.specs.declared.fault.Refusal.TheVariants.{QueueFull}
use Rattle.queue.specs.Schedule.{Schedule}
use Rattle.queue.specs.Sorted.{placed}

-- the list that a queue keeps while these entries wait
abbrev pub queue_of : {X : Type 0} → Schedule X → List X → List X
queue_of s waiting = fold (λ xs e. placed s e xs) [] waiting

-- a push is accepted where there is room, and the entry waits behind the others; else it is refused, and nothing changes
abbrev pub PushOutcome : {X : Type 0} → ℕ → X → List X → Result (Unit {0}) Refusal → List X → Type 0
PushOutcome capacity e waiting (Ok _) next = (length waiting < capacity) × (next ≡ waiting ++ e ∷ [])
PushOutcome capacity e waiting (Err cause) next = (cause ≡ QueueFull) × (capacity ≤ length waiting) × (next ≡ waiting)

-- x is the first in order: all that were pushed before it come later, and none that was pushed behind it comes earlier;
-- `next` are the others
pub record First {X : Type 0} (s : Schedule X) (waiting : List X) (x : X) (next : List X) : Type 0 where
  pub before : List X
  pub behind : List X
  pub waits : waiting ≡ before ++ x ∷ behind
  pub later : AllByRecursion (λ y. s.no_later y x ≡ false) before
  pub no_earlier : AllByRecursion (λ y. s.no_later x y ≡ true) behind
  pub others : next ≡ before ++ behind

-- a take hands out the first entry if it is due; else none is due, and nothing changes
abbrev pub TakeOutcome : {X : Type 0} → Schedule X → ℕ → List X → Option X → List X → Type 0
TakeOutcome s t waiting (Some x) next = (s.is_due t x ≡ true) × First s waiting x next
TakeOutcome s t waiting None next = AllByRecursion (λ y. s.is_due t y ≡ false) waiting × (next ≡ waiting)

-- a push of e that found the list xs, answered r and left the list ys: whatever entries wait
abbrev pub PushLaw : {X : Type 0} → Schedule X → ℕ → X → List X → Result (Unit {0}) Refusal → List X → Type 0
PushLaw {X} s capacity e xs r ys =
    (waiting : List X) → xs ≡ queue_of s waiting → (next : List X) × (PushOutcome capacity e waiting r next × (ys ≡ queue_of s next))

-- a take at tick t that found the list xs, answered r and left the list ys: whatever entries wait
abbrev pub TakeLaw : {X : Type 0} → Schedule X → ℕ → List X → Option X → List X → Type 0
TakeLaw {X} s t xs r ys =
    (waiting : List X) → xs ≡ queue_of s waiting → (next : List X) × (TakeOutcome s t waiting r next × (ys ≡ queue_of s next))
