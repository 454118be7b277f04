-- The tests of each call apart from what follows from them: a test answers the cause of a refusal, which the room raises
-- as a fault.
use Rattle.std.specs.Prelude.{ℕ, Bool, cond, not, List, [], ◌∷◌, ℤ, pos, ◌+ℤ◌, None, Ok, Err, Result, int_le}
use Rattle.std.specs.Option.{ok_or}
use Rattle.disk.specs.declared.fault.Fault.{Fault}
use Rattle.disk.specs.declared.fault.Refusal.{Refusal}
use Rattle.disk.specs.declared.fault.Refusal.TheVariants.{Late, NoSuchWrite, NotLanded, NotOpen, WrongSeat}
use Rattle.format.specs.declared.events.Event.{Event}
use Rattle.format.specs.declared.events.Event.TheVariants as events
use Rattle.format.specs.declared.lease.LeaseRecord.{LeaseRecord}
use Rattle.format.specs.declared.lease.Mark.{Mark}
use Rattle.machine.specs.declared.types.Confirmed.{Confirmed}
use Rattle.machine.specs.declared.types.Confirmed.TheVariants as confirms
use Rattle.machine.specs.declared.types.Flight.{Flight}
use Rattle.machine.specs.declared.types.Pending.{Pending}
use Rattle.machine.specs.declared.types.Seat.TheVariants as seats
use Rattle.machine.specs.Room.{Room, World, at_room, noted, reading, seat_at, with_seat}
use Rattle.machine.specs.Outcomes.{Outcome, area_test, log_test, refused, room_fault, standing}
use Rattle.machine.specs.Seats.{Claim, claim, hold, same_mark}
use Rattle.machine.specs.Steps.{issue_tests, lease_entry}
use Rattle.machine.specs.Claiming.{check_tests, stolen}
use Rattle.machine.specs.Holding.{is_own}
use Rattle.machine.specs.Writes.{find}
use Rattle.board.specs.declared.naming.WriteName.{WriteName}

-- tests in the order of the rules: the first that holds refuses, by its cause
abbrev pub verdict : List (Bool × Refusal) → Result (Unit {0}) Refusal
verdict [] = Ok tt
verdict (x ∷ xs) = cond x.0 (Err x.1) (verdict xs)

-- a step, unless the one before was refused
abbrev pub and_then : {X Y : Type 0} → Result X Refusal → (X → Result Y Refusal) → Result Y Refusal
and_then (Ok x) next = next x
and_then (Err cause) next = Err cause

-- the cause of a refusal, raised by the room as a fault
abbrev pub raised : {A : Type 0} → Room → Result A Refusal → Result A Fault
raised m (Ok x) = Ok x
raised m (Err cause) = Err (room_fault m cause 0)

-- what a call comes to after a step: it refuses by the step's cause, or goes on with what the step found
abbrev pub proceed : {A X : Type 0} → World → Result X Refusal → (X → Outcome A) → Outcome A
proceed w (Ok x) next = next x
proceed w (Err cause) next = refused w cause 0

-- a lease until this reading has run out
abbrev pub late : Room → ℕ → ℤ → Bool × Refusal
late m h until = (int_le until (reading m h), Late)

-- the term of a lease that has not run out, held by a host that may call
abbrev pub term_to_sign : Room → ℕ → ℕ → Result ℕ Refusal
term_to_sign m h r =
    and_then (verdict (standing m h r)) (λ _.
    and_then (ok_or (hold (seat_at m h r)) WrongSeat) (λ x.
    and_then (verdict (late m h x.until ∷ [])) (λ _. Ok x.term)))

-- the lease has not run out, and a write may be issued
abbrev pub renew_tests : Room → ℕ → ℤ → List (Bool × Refusal)
renew_tests m h until = late m h until ∷ issue_tests m h

-- a held lease with a renewal that waits for its confirm
pub record Renewal : Type 0 where
  pub term : ℕ
  pub pending : Pending

-- a lease from a reading on runs out at this one
abbrev pub lease_end : Room → ℤ → ℤ
lease_end m from = from +ℤ pos m.settings.lease

-- the seat is held until a reading, with nothing pending, and an entry of this event tells it
abbrev pub held_until : World → Event → ℕ → ℕ → ℕ → ℤ → World
held_until w event h r term until =
    noted (at_room w (with_seat w.room h r (seats.Held term (record { 0 = until }) None))) (lease_entry w.room event h r term until)

-- a renewal that landed extends the lease to a lease from when it was issued
abbrev pub extended : World → ℕ → ℕ → Renewal → Outcome Confirmed
extended w h r x =
    let m = w.room in
    let until = x.pending.issued.0 +ℤ pos m.settings.lease in
    record {
      answer = Ok confirms.Renewed;
      world = noted (at_room w (with_seat m h r (seats.Held x.term (record { 0 = until }) None)))
          (lease_entry m events.Renewed h r x.term until);
    }

-- the renewal is there, or not yet, or the lease was overwritten
abbrev pub confirmed : ℕ → ℕ → Renewal → World → LeaseRecord → Outcome Confirmed
confirmed h r x w seen =
    cond (same_mark seen.mark x.pending.mark)
    (extended w h r x)
    (cond (is_own w.room h seen)
    (refused w NotLanded 0)
    (record { answer = Ok confirms.Stolen; world = stolen w h r }))

-- there is room in the log, and the lease has not run out
abbrev pub confirm_tests : World → ℕ → ℤ → List (Bool × Refusal)
confirm_tests w h until = log_test w ∷ late w.room h until ∷ []

-- the renewal that a confirm is about, unless the call refuses before it reads the block
abbrev pub renewal_to_confirm : World → ℕ → ℕ → List ℕ → Result Renewal Refusal
renewal_to_confirm w h r area =
    let m = w.room in
    and_then (verdict (area_test area ∷ standing m h r)) (λ _.
    and_then (ok_or (hold (seat_at m h r)) WrongSeat) (λ x.
    and_then (ok_or x.pending WrongSeat) (λ p.
    and_then (verdict (confirm_tests w h x.until)) (λ _. Ok (record { term = x.term; pending = p })))))

-- the claim that a check is about, unless the call refuses before it reads the block
abbrev pub claim_to_check : World → ℕ → ℕ → List ℕ → Result Claim Refusal
claim_to_check w h r area =
    let m = w.room in
    and_then (verdict (area_test area ∷ standing m h r)) (λ _.
    and_then (ok_or (claim (seat_at m h r)) WrongSeat) (λ x.
    and_then (verdict (check_tests w h x.issued)) (λ _. Ok x)))

-- the area is a block long, and the room is still closed
abbrev pub open_tests : Room → List ℕ → List (Bool × Refusal)
open_tests m area = area_test area ∷ (m.opened, NotOpen) ∷ []

-- the mark that a caller's numbers tell
abbrev pub mark_of : WriteName → Mark
mark_of x = record { owner = x.owner; generation = x.generation; stamp = x.stamp }

-- the name of the write with this mark
abbrev pub name_of : Mark → WriteName
name_of x = record { owner = x.owner; generation = x.generation; stamp = x.stamp }

-- the area is a block long, and the room is open
abbrev pub land_tests : Room → List ℕ → List (Bool × Refusal)
land_tests m area = area_test area ∷ (not m.opened, NotOpen) ∷ []

-- the write that is to land, unless the call refuses before it writes the block
abbrev pub write_to_land : Room → Mark → List ℕ → Result Flight Refusal
write_to_land m mark area =
    and_then (verdict (land_tests m area)) (λ _. ok_or (find mark m.flights) NoSuchWrite)
