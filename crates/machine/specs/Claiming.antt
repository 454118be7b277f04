-- Try and check: how a host comes to hold a resource.
use Rattle.std.specs.Prelude.{ℕ, ◌+◌, ◌*◌, Bool, cond, not, ◌||◌, List, [], ◌∷◌, ◌++◌, length, ℤ, pos, ◌+ℤ◌, Some, None, Ok, int_le, int_lt, nat_le}
use Rattle.disk.specs.declared.fault.Refusal.{Refusal}
use Rattle.disk.specs.declared.fault.Refusal.TheVariants.{WrongSeat, Early, Late, FlightFull, NumberSpent}
use Rattle.format.specs.declared.lease.Kind.TheVariants.{Free, Owned}
use Rattle.format.specs.declared.lease.LeaseRecord.{LeaseRecord}
use Rattle.format.specs.declared.events.Event.TheVariants as events
use Rattle.machine.specs.declared.types.Seat.TheVariants as seats
use Rattle.machine.specs.declared.types.Tried.{Tried}
use Rattle.machine.specs.declared.types.Tried.TheVariants as tries
use Rattle.machine.specs.declared.types.Checked.{Checked}
use Rattle.machine.specs.declared.types.Checked.TheVariants as checks
use Rattle.machine.specs.Room.{Room, World, at_room, host_at, noted, reading, seat_at, with_seat}
use Rattle.machine.specs.Outcomes.{Outcome, area_test, log_test, refused, standing, unless}
use Rattle.machine.specs.Seats.{Claim, claim, is_vacant, same_record, watched}
use Rattle.machine.specs.Steps.{issued, lease_entry, next_mark, reading_block}

-- the seat watches the record from now
abbrev pub watching : World → ℕ → ℕ → LeaseRecord → Outcome Tried
watching w h r seen =
    record {
      answer = Ok tries.Watching;
      world = at_room w (with_seat w.room h r (seats.Watching seen (record { 0 = reading w.room h })));
    }

-- a write may be issued, and there is a term left
abbrev pub claim_tests : Room → ℕ → LeaseRecord → List (Bool × Refusal)
claim_tests m h seen =
    (nat_le 32 (length m.flights), FlightFull) ∷ (nat_le 9999 (host_at m h).stamp || nat_le 999999 seen.term, NumberSpent) ∷ []

-- an owned record is issued, with the term that was read plus one
abbrev pub claiming : World → ℕ → ℕ → LeaseRecord → Outcome Tried
claiming w h r seen =
    let m = w.room in
    unless w (claim_tests m h seen)
    (record {
      answer = Ok (tries.Claimed (next_mark m h));
      world = at_room w (with_seat (issued m h Owned r (seen.term + 1)) h r
          (seats.Claimed (next_mark m h) (seen.term + 1) (record { 0 = reading m h })));
    })

-- a record that is watched has to stand still for a lease
abbrev pub still_tests : Room → ℕ → ℤ → List (Bool × Refusal)
still_tests m h since = (int_lt (reading m h) (since +ℤ pos m.settings.lease), Early) ∷ []

-- a free record is claimed, an owned one is watched until it has stood still
abbrev pub tried : ℕ → ℕ → World → LeaseRecord → Outcome Tried
tried h r w seen = elim seen.kind [
  | Free ↦ claiming w h r seen
  | Owned ↦ elim (watched (seat_at w.room h r)) [
    | None ↦ watching w h r seen
    | Some x ↦ cond (same_record seen x.seen)
        (unless w (still_tests w.room h x.since) (claiming w h r seen))
        (watching w h r seen)
  ]
]

-- the area is a block long, the host may call, and its seat is idle or watching
abbrev pub try_tests : Room → ℕ → ℕ → List ℕ → List (Bool × Refusal)
try_tests m h r area = area_test area ∷ standing m h r ++ ((not (is_vacant (seat_at m h r)), WrongSeat) ∷ [])

-- try reads the block and claims it, or watches it
unfoldable pub try_call : World → ℕ → ℕ → List ℕ → Outcome Tried
try_call w h r area = unless w (try_tests w.room h r area) (reading_block w r (tried h r))

-- a claim is checked once all writes that it may have crossed have landed or are lost
abbrev pub check_wait : Room → ℕ
check_wait m = 2 * m.settings.delay + 1

-- the claim was overwritten
abbrev pub stolen : World → ℕ → ℕ → World
stolen w h r = at_room w (with_seat w.room h r seats.Idle)

-- the seat is held for a lease from when the claim was issued
abbrev pub granted : World → ℕ → ℕ → Claim → Outcome Checked
granted w h r x =
    let m = w.room in
    let until = x.issued +ℤ pos m.settings.lease in
    record {
      answer = Ok (checks.Granted x.term (record { 0 = until }));
      world = noted (at_room w (with_seat m h r (seats.Held x.term (record { 0 = until }) None)))
          (lease_entry m events.Granted h r x.term until);
    }

-- granted if the record is the claim itself
abbrev pub checked : ℕ → ℕ → Claim → World → LeaseRecord → Outcome Checked
checked h r x w seen =
    cond (same_record seen (record { kind = Owned; resource = r; mark = x.mark; term = x.term }))
    (granted w h r x)
    (record { answer = Ok checks.Stolen; world = stolen w h r })

-- there is room in the log, and the claim is neither too young nor over
abbrev pub check_tests : World → ℕ → ℤ → List (Bool × Refusal)
check_tests w h issued =
    let m = w.room in
    log_test w
    ∷ (int_lt (reading m h) (issued +ℤ pos (check_wait m)), Early)
    ∷ (int_le (issued +ℤ pos m.settings.lease) (reading m h), Late)
    ∷ []

-- check reads the block, to see whether the claim still stands there
unfoldable pub check_call : World → ℕ → ℕ → List ℕ → Outcome Checked
check_call w h r area =
    let m = w.room in
    unless w (area_test area ∷ standing m h r) (elim (claim (seat_at m h r)) [
      | None ↦ refused w WrongSeat 0
      | Some x ↦ unless w (check_tests w h x.issued) (reading_block w r (checked h r x))
    ])
