-- Crash and restart.
use Rattle.std.specs.Prelude.{ℕ, ◌+◌, Bool, true, false, not, List, [], ◌∷◌, replicate, nat_le, nat_lt}
use Rattle.disk.specs.declared.fault.Refusal.{Refusal}
use Rattle.disk.specs.declared.fault.Refusal.TheVariants.{NotOpen, NoSuchHostOrResource, HostDown, NumberSpent}
use Rattle.format.specs.declared.events.Event.TheVariants as events
use Rattle.machine.specs.declared.types.Seat.TheVariants as seats
use Rattle.machine.specs.Room.{Room, World, at_room, host_at, noted, with_host, with_row}
use Rattle.machine.specs.Outcomes.{Outcome, done, log_test, unless}
use Rattle.machine.specs.Steps.{plain_entry}

-- the room is open, the host is there and up, there is room in the log
abbrev pub crash_tests : World → ℕ → List (Bool × Refusal)
crash_tests w h =
    let m = w.room in
    (not m.opened, NotOpen) ∷ (not (nat_lt h m.settings.hosts), NoSuchHostOrResource) ∷ (not (host_at m h).up, HostDown) ∷ log_test w ∷ []

-- the host is down and its seats are idle; its writes stay in flight
abbrev pub taken_down : Room → ℕ → Room
taken_down m h =
    let x = host_at m h in
    with_row (with_host m h (record { offset = x.offset; up = false; generation = x.generation; stamp = x.stamp })) h (replicate 8 seats.Idle)

-- crash takes a host down and logs it
abbrev pub crash_call : World → ℕ → Outcome (Unit {0})
crash_call w h =
    let m = w.room in
    unless w (crash_tests w h) (done (noted (at_room w (taken_down m h)) (plain_entry m events.Crashed h 0 0)))

-- the room is open, the host is there and down, and has a generation left
abbrev pub restart_tests : Room → ℕ → List (Bool × Refusal)
restart_tests m h =
    (not m.opened, NotOpen)
    ∷ (not (nat_lt h m.settings.hosts), NoSuchHostOrResource)
    ∷ ((host_at m h).up, HostDown)
    ∷ (nat_le 65535 (host_at m h).generation, NumberSpent)
    ∷ []

-- the host is up in its next generation, with no stamp used
abbrev pub brought_up : Room → ℕ → Room
brought_up m h =
    let x = host_at m h in
    with_host m h (record { offset = x.offset; up = true; generation = x.generation + 1; stamp = 0 })

-- restart brings a host up again
abbrev pub restart_call : World → ℕ → Outcome (Unit {0})
restart_call w h = unless w (restart_tests w.room h) (done (at_room w (brought_up w.room h)))
