-- The calls of the rules told by the verdict on their tests.
use Rattle.std.proofs.Common.{◌≡◌, Bool, true, false, cond, List, [], ◌∷◌, Ok, Err, Some, None, Option, Result, sym, refl, ap, ◌∙◌}
use Rattle.disk.specs.declared.fault.Fault.{Fault}
use Rattle.disk.specs.declared.fault.Refusal.{Refusal}
use Rattle.machine.specs.Room.{Room, World}
use Rattle.machine.specs.Outcomes.{Outcome, gate, refused, room_fault, then, unless}
use Rattle.board.specs.Verdicts.{proceed, raised, verdict}

-- the room raises the cause that the first test gives
pub gate_raised : (m : Room) (xs : List (Bool × Refusal)) → gate m xs ≡ raised m (verdict xs)
gate_raised m [] = refl
gate_raised m (x ∷ xs) = go x.0 (gate_raised m xs)
  where
    go : (b : Bool) → gate m xs ≡ raised m (verdict xs) → cond b (Err (room_fault m x.1 0)) (gate m xs) ≡ raised m (cond b (Err x.1) (verdict xs))
    go true e = refl
    go false e = e

-- what follows from tests goes on from their verdict
pub unless_proceeds : {A : Type 0} (w : World) (xs : List (Bool × Refusal)) (o : Outcome A) → unless w xs o ≡ proceed w (verdict xs) (λ _. o)
unless_proceeds w xs o = ap (λ (a : Result (Unit {0}) Fault). then a w o) (gate_raised w.room xs) ∙ go (verdict xs)
  where
    go : (s : Result (Unit {0}) Refusal) → then (raised w.room s) w o ≡ proceed w s (λ _. o)
    go (Ok u) = refl
    go (Err cause) = refl

-- tests that let pass
pub unless_passes : {A : Type 0} (w : World) (xs : List (Bool × Refusal)) (o : Outcome A) → Ok tt ≡ verdict xs → unless w xs o ≡ o
unless_passes w xs o e = unless_proceeds w xs o ∙ ap (λ (s : Result (Unit {0}) Refusal). proceed w s (λ _. o)) (sym e)

-- tests that refuse
pub unless_refuses : {A : Type 0} (w : World) (xs : List (Bool × Refusal)) (o : Outcome A) (cause : Refusal) → Err cause ≡ verdict xs → unless w xs o ≡ refused w cause 0
unless_refuses w xs o cause e = unless_proceeds w xs o ∙ ap (λ (s : Result (Unit {0}) Refusal). proceed w s (λ _. o)) (sym e)

-- the tests of the host let pass, what is asked for is there, and the tests of it refuse
pub second_refuses : {A X : Type 0} (w : World) (xs : List (Bool × Refusal)) (s : Option X) (none : Outcome A) (tests : X → List (Bool × Refusal)) (next : X → Outcome A) (x : X) (cause : Refusal)
    → Ok tt ≡ verdict xs → s ≡ Some x → Err cause ≡ verdict (tests x) → unless w xs (elim s [ None ↦ none | Some y ↦ unless w (tests y) (next y) ]) ≡ refused w cause 0
second_refuses w xs s none tests next x cause first there second =
    unless_passes w xs (elim s [ None ↦ none | Some y ↦ unless w (tests y) (next y) ]) first
    ∙ ap (λ (z : Option _). elim z [ None ↦ none | Some y ↦ unless w (tests y) (next y) ]) there
    ∙ unless_refuses w (tests x) (next x) cause second

-- the tests of the host let pass, what is asked for first is not there, what is asked for then is, and the tests of it refuse
pub other_refuses : {A X Y : Type 0} (w : World) (xs : List (Bool × Refusal)) (t : Option Y) (some : Y → Outcome A) (s : Option X) (none : Outcome A) (tests : X → List (Bool × Refusal)) (next : X → Outcome A) (x : X) (cause : Refusal)
    → Ok tt ≡ verdict xs → t ≡ None → s ≡ Some x → Err cause ≡ verdict (tests x)
    → unless w xs (elim t [ Some y ↦ some y | None ↦ elim s [ None ↦ none | Some y ↦ unless w (tests y) (next y) ] ]) ≡ refused w cause 0
other_refuses w xs t some s none tests next x cause first gone there second =
    ap (λ (z : Option _). unless w xs (elim z [ Some y ↦ some y | None ↦ elim s [ None ↦ none | Some y ↦ unless w (tests y) (next y) ] ])) gone
    ∙ second_refuses w xs s none tests next x cause first there second
