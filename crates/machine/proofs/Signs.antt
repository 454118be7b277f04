-- What sign answers.
use Rattle.std.proofs.Common.{arith, ◌≡◌, ℕ, false, [], ◌∷◌, Some, None, Ok, Err, Option, Result, refl, ap, ◌∙◌}
use lib.Signed.{le_z}
use Rattle.disk.specs.declared.fault.Fault.{Fault}
use Rattle.disk.specs.declared.fault.Refusal.TheVariants.{WrongSeat}
use Rattle.machine.specs.Room.{Room, seat_at, reading}
use Rattle.machine.specs.Outcomes.{gate, room_fault, standing}
use Rattle.machine.specs.Seats.{Hold, hold}
use Rattle.machine.specs.Holding.{late, signs, sign_by, sign_call}
use Rattle.machine.specs.Soundness.{Holds}
use Rattle.std.proofs.lemmas.Int.{ints}
use Rattle.machine.proofs.Tests.{AllFalse, gate_passes, gate_elim}

-- what sign answers of a seat, once the host may call
abbrev seat_sign : Room → ℕ → Option Hold → Result ℕ Fault
seat_sign m h y = elim y [ None ↦ Err (room_fault m WrongSeat 0) | Some x ↦ signs m h x (gate m (late m h x ∷ [])) ]

-- a host that may call, with a lease that is not over, is answered its term
pub sign_answers : (m : Room) (h r : ℕ) (x : Hold) → AllFalse (standing m h r) → hold (seat_at m h r) ≡ Some x → le_z x.until (reading m h) ≡ false → sign_call m h r ≡ Ok x.term
sign_answers m h r x n e soon =
    ap (sign_by m h r) (gate_passes m (standing m h r) n) ∙ ap (seat_sign m h) e ∙ ap (signs m h x) (gate_passes m (late m h x ∷ []) (soon, tt))

-- whom sign answers a term holds
pub sign_holds : (m : Room) (h r k : ℕ) → sign_call m h r ≡ Ok k → Holds m h r
sign_holds m h r k = gate_elim m (λ a. sign_by m h r a ≡ Ok k → Holds m h r) (standing m h r) (λ _ e. cc) (λ _. seat (hold (seat_at m h r)) refl)
  where
    seat : (y : Option Hold) → hold (seat_at m h r) ≡ y → seat_sign m h y ≡ Ok k → Holds m h r
    seat None is = λ e. cc
    seat (Some x) is = gate_elim m (λ a. signs m h x a ≡ Ok k → Holds m h r) (late m h x ∷ []) (λ _ e. cc) (λ n _. (x, is, let soon = n.0 in omega (arith, ints)))
