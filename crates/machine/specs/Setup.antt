-- Set clock, open and tick.
use Rattle.std.specs.Prelude.{ℕ, zero, suc, ◌+◌, ◌-◌, Bool, true, cond, not, List, [], ◌∷◌, length, ℤ, nat_le, nat_lt}
use Rattle.disk.specs.declared.fault.Refusal.{Refusal}
use Rattle.disk.specs.declared.fault.Refusal.TheVariants.{NoSuchBlock, NotOpen, NoSuchHostOrResource, NumberSpent, BadValue}
use Rattle.format.specs.Blocks.{founding, block_of}
use Rattle.format.specs.Offsets.{near}
use Rattle.machine.specs.declared.types.Flight.{Flight}
use Rattle.machine.specs.Room.{Room, World, at_room, host_at, with_host}
use Rattle.machine.specs.Outcomes.{Outcome, area_test, done, refused, unless}
use Rattle.machine.specs.Steps.{writing_block}

-- the room is still closed, the host is there, the offset is within a day
abbrev pub clock_tests : Room → ℕ → ℤ → List (Bool × Refusal)
clock_tests m h offset =
    (m.opened, NotOpen) ∷ (not (nat_lt h m.settings.hosts), NoSuchHostOrResource) ∷ (not (near offset), BadValue) ∷ []

-- the host with another offset
abbrev pub with_offset : Room → ℕ → ℤ → Room
with_offset m h offset =
    let x = host_at m h in
    with_host m h (record { offset = offset; up = x.up; generation = x.generation; stamp = x.stamp })

-- a clock is set before the room opens
abbrev pub set_clock_call : World → ℕ → ℤ → Outcome (Unit {0})
set_clock_call w h offset = unless w (clock_tests w.room h offset) (done (at_room w (with_offset w.room h offset)))

-- the same room, open
abbrev pub now_open : Room → Room
now_open m = record { settings = m.settings; disk = m.disk; opened = true; tick = m.tick; hosts = m.hosts; seats = m.seats; flights = m.flights; logged = m.logged }

-- the founding records of resources r and on are written, so many; the first block that fails ends it
abbrev pub formatting : World → ℕ → ℕ → Outcome (Unit {0})
formatting w r zero = done (at_room w (now_open w.room))
formatting w r (suc left) = writing_block w r (block_of (founding r)) (λ w'. formatting w' (r + 1) left)

-- open formats the blocks of all resources, which have to be there
unfoldable pub open_call : World → List ℕ → Outcome (Unit {0})
open_call w area =
    let m = w.room in
    unless w (area_test area ∷ (m.opened, NotOpen) ∷ [])
    (cond (nat_lt (length m.disk.blocks) m.settings.resources)
    (refused w NoSuchBlock (m.settings.resources - 1))
    (formatting w 0 m.settings.resources))

-- the writes that may still land at this tick: those issued at most the delay ago
abbrev pub younger : ℕ → ℕ → List Flight → List Flight
younger delay tick [] = []
younger delay tick (f ∷ fs) = cond (nat_lt (f.issued.0 + delay) tick) (younger delay tick fs) (f ∷ younger delay tick fs)

-- the room is open and has a tick left
abbrev pub tick_tests : Room → List (Bool × Refusal)
tick_tests m = (not m.opened, NotOpen) ∷ (nat_le 999999 m.tick, NumberSpent) ∷ []

-- the tick rises by one, and writes that are too old are lost
abbrev pub one_tick_on : Room → Room
one_tick_on m = record { settings = m.settings; disk = m.disk; opened = m.opened; tick = m.tick + 1; hosts = m.hosts; seats = m.seats; flights = younger m.settings.delay (m.tick + 1) m.flights; logged = m.logged }

-- tick lets a millisecond pass
abbrev pub tick_call : World → Outcome (Unit {0})
tick_call w = unless w (tick_tests w.room) (done (at_room w (one_tick_on w.room)))
