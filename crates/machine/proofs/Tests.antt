-- A chain of tests, and the cases inside an outcome.
use Rattle.std.proofs.Common.{◌≡◌, Bool, false, List, [], ◌∷◌, Some, None, Ok, Err, Option, Result, refl, ◌∙◌}
use Rattle.std.proofs.lemmas.Bool.{cond_both, cond-false}
use Rattle.format.specs.declared.lease.Kind.{Kind}
use Rattle.format.specs.declared.lease.Kind.TheVariants.{Free, Owned}
use Rattle.disk.specs.declared.fault.Fault.{Fault}
use Rattle.disk.specs.declared.fault.Refusal.{Refusal}
use Rattle.machine.specs.Room.{Room, World}
use Rattle.machine.specs.Outcomes.{Outcome, gate, then, room_fault, unless, refused}

-- none of the tests holds
abbrev pub AllFalse : List (Bool × Refusal) → Type 0
AllFalse [] = Unit {0}
AllFalse (x ∷ xs) = (x.0 ≡ false) × AllFalse xs

-- tests refuse, or none of them holds
pub gate_elim : (m : Room) (P : Result (Unit {0}) Fault → Type 0) (xs : List (Bool × Refusal)) → ((c : Refusal) → P (Err (room_fault m c 0))) → (AllFalse xs → P (Ok tt)) → P (gate m xs)
gate_elim m P [] left right = right tt
gate_elim m P (x ∷ xs) left right =
    let n = gate_elim m P xs left in
    cond_both x.0 (Err (room_fault m x.1 0)) (gate m xs) P (λ _. left x.1) (λ e. n (λ f. right (e, f)))

-- a call refuses, leaving the world as it was, or no test held
pub unless_elim : {A : Type 0} (P : Outcome A → Type 0) (w : World) (o : Outcome A) (xs : List (Bool × Refusal)) → ((c : Refusal) → P (refused w c 0)) → (AllFalse xs → P o) → P (unless w xs o)
unless_elim P w o xs left right = gate_elim w.room (λ a. P (then a w o)) xs left right

-- by the cases of a term inside an outcome
pub by_kind : {A : Type 0} (P : Outcome A → Type 0) (c : Kind) (a b : Outcome A) → (c ≡ Free → P a) → (c ≡ Owned → P b) → P (elim c [ Free ↦ a | Owned ↦ b ])
by_kind P Free a b f g = f refl
by_kind P Owned a b f g = g refl

-- so for an option
pub by_option : {A X : Type 0} (P : Outcome A → Type 0) (o : Option X) (a : Outcome A) (f : X → Outcome A) → (o ≡ None → P a) → ((x : X) → o ≡ Some x → P (f x)) → P (elim o [ None ↦ a | Some x ↦ f x ])
by_option P None a f g h = g refl
by_option P (Some x) a f g h = h x refl

-- tests of which none holds let pass
pub gate_passes : (m : Room) (xs : List (Bool × Refusal)) → AllFalse xs → gate m xs ≡ Ok tt
gate_passes m [] n = refl
gate_passes m (x ∷ xs) n = cond-false x.0 (Err (room_fault m x.1 0)) (gate m xs) n.0 ∙ gate_passes m xs n.1
