-- Sign, renew, confirm, release and watch: what a host does with a lease that it holds, and how one ends.
use Rattle.std.specs.Prelude.{ℕ, Bool, cond, ◌&&◌, List, [], ◌∷◌, ℤ, pos, ◌+ℤ◌, Some, None, Ok, Err, Result, ◌==◌, int_le, int_lt}
use Rattle.disk.specs.declared.fault.Fault.{Fault}
use Rattle.disk.specs.declared.fault.Refusal.{Refusal}
use Rattle.disk.specs.declared.fault.Refusal.TheVariants.{WrongSeat, Early, Late, NotLanded}
use Rattle.format.specs.declared.lease.Kind.TheVariants.{Free, Owned}
use Rattle.format.specs.declared.lease.Mark.{Mark}
use Rattle.format.specs.declared.lease.LeaseRecord.{LeaseRecord}
use Rattle.format.specs.declared.events.Event.TheVariants as events
use Rattle.machine.specs.declared.types.Pending.{Pending}
use Rattle.machine.specs.declared.types.Seat.TheVariants as seats
use Rattle.machine.specs.declared.types.Confirmed.{Confirmed}
use Rattle.machine.specs.declared.types.Confirmed.TheVariants as confirms
use Rattle.machine.specs.Room.{Room, World, at_room, host_at, noted, reading, seat_at, with_seat}
use Rattle.machine.specs.Outcomes.{Outcome, area_test, done, gate, log_test, refused, room_fault, standing, unless}
use Rattle.machine.specs.Seats.{Claim, Hold, claim, hold, same_kind, same_mark}
use Rattle.machine.specs.Steps.{issue_tests, issued, lease_entry, next_mark, plain_entry, reading_block}
use Rattle.machine.specs.Claiming.{stolen}

-- the lease has run out
abbrev pub late : Room → ℕ → Hold → Bool × Refusal
late m h x = (int_le x.until (reading m h), Late)

-- sign is a question: the term of a lease that has not run out
abbrev pub signs : Room → ℕ → Hold → Result (Unit {0}) Fault → Result ℕ Fault
signs m h x (Ok _) = Ok x.term
signs m h x (Err f) = Err f

-- of a host that may call, the seat has to be held
abbrev pub sign_by : Room → ℕ → ℕ → Result (Unit {0}) Fault → Result ℕ Fault
sign_by m h r (Ok _) = elim (hold (seat_at m h r)) [
  | None ↦ Err (room_fault m WrongSeat 0)
  | Some x ↦ signs m h x (gate m (late m h x ∷ []))
]
sign_by m h r (Err f) = Err f

-- sign answers the term to a host that may call and holds
abbrev pub sign_call : Room → ℕ → ℕ → Result ℕ Fault
sign_call m h r = sign_by m h r (gate m (standing m h r))

-- renew issues the record with a new stamp and the same term, now pending
abbrev pub renew_call : World → ℕ → ℕ → Outcome Mark
renew_call w h r =
    let m = w.room in
    unless w (standing m h r) (elim (hold (seat_at m h r)) [
      | None ↦ refused w WrongSeat 0
      | Some x ↦ unless w (late m h x ∷ issue_tests m h) (record {
        answer = Ok (next_mark m h);
        world = at_room w (with_seat (issued m h Owned r x.term) h r
            (seats.Held x.term (record { 0 = x.until }) (Some (record { mark = next_mark m h; issued = record { 0 = reading m h } }))));
      })
    ])

-- a renewal that landed extends the lease to a lease from when it was issued
abbrev pub extended : World → ℕ → ℕ → Hold → Pending → Outcome Confirmed
extended w h r x p =
    let m = w.room in
    let until = p.issued.0 +ℤ pos m.settings.lease in
    record {
      answer = Ok confirms.Renewed;
      world = noted (at_room w (with_seat m h r (seats.Held x.term (record { 0 = until }) None)))
          (lease_entry m events.Renewed h r x.term until);
    }

-- the record is one of this host's, in its present generation
abbrev pub is_own : Room → ℕ → LeaseRecord → Bool
is_own m h seen = same_kind seen.kind Owned && (seen.mark.owner == h && seen.mark.generation == (host_at m h).generation)

-- the renewal is there, or not yet, or the lease was overwritten
abbrev pub confirmed : ℕ → ℕ → Hold → Pending → World → LeaseRecord → Outcome Confirmed
confirmed h r x p w seen =
    cond (same_mark seen.mark p.mark)
    (extended w h r x p)
    (cond (is_own w.room h seen)
    (refused w NotLanded 0)
    (record { answer = Ok confirms.Stolen; world = stolen w h r }))

-- confirm reads the block, to see whether the pending renewal has landed
unfoldable pub confirm_call : World → ℕ → ℕ → List ℕ → Outcome Confirmed
confirm_call w h r area =
    let m = w.room in
    unless w (area_test area ∷ standing m h r) (elim (hold (seat_at m h r)) [
      | None ↦ refused w WrongSeat 0
      | Some x ↦ elim x.pending [
        | None ↦ refused w WrongSeat 0
        | Some p ↦ unless w (log_test w ∷ late m h x ∷ []) (reading_block w r (confirmed h r x p))
      ]
    ])

-- release issues a free record with a new stamp and the same term
abbrev pub release_call : World → ℕ → ℕ → Outcome Mark
release_call w h r =
    let m = w.room in
    unless w (standing m h r) (elim (hold (seat_at m h r)) [
      | None ↦ refused w WrongSeat 0
      | Some x ↦ unless w (log_test w ∷ late m h x ∷ issue_tests m h) (record {
        answer = Ok (next_mark m h);
        world = noted (at_room w (with_seat (issued m h Free r x.term) h r seats.Idle)) (plain_entry m events.Released h r x.term);
      })
    ])

-- a lease or a claim that is watched has to have run out
abbrev pub ended_tests : World → ℕ → ℤ → List (Bool × Refusal)
ended_tests w h end = log_test w ∷ (int_lt (reading w.room h) end, Early) ∷ []

-- a lease ends at until
abbrev pub expire_tests : World → ℕ → Hold → List (Bool × Refusal)
expire_tests w h x = ended_tests w h x.until

-- a claim ends a lease after it was issued
abbrev pub leave_tests : World → ℕ → Claim → List (Bool × Refusal)
leave_tests w h x = ended_tests w h (x.issued +ℤ pos w.room.settings.lease)

-- watch makes a seat idle whose lease or claim has run out
abbrev pub watch_call : World → ℕ → ℕ → Outcome (Unit {0})
watch_call w h r =
    let m = w.room in
    let idle : World = at_room w (with_seat m h r seats.Idle) in
    unless w (standing m h r) (elim (hold (seat_at m h r)) [
      | Some x ↦ unless w (expire_tests w h x) (done (noted idle (plain_entry m events.Expired h r x.term)))
      | None ↦ elim (claim (seat_at m h r)) [
        | None ↦ refused w WrongSeat 0
        | Some x ↦ unless w (leave_tests w h x) (done idle)
      ]
    ])
