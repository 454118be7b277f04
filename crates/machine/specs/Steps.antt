-- Steps that several calls share: reading and writing a block, issuing a write, log entries.
use Rattle.std.specs.Prelude.{ℕ, ◌+◌, Bool, List, [], ◌∷◌, ◌++◌, length, ℤ, ◌+ℤ◌, Ok, Err, Result, nat_le}
use Rattle.disk.specs.declared.fault.Refusal.{Refusal}
use Rattle.disk.specs.declared.fault.Refusal.TheVariants.{FlightFull, NumberSpent}
use Rattle.disk.specs.declared.fault.Fault.{Fault}
use Rattle.disk.specs.Model.{block_length, access_answer, after_read, after_write}
use Rattle.format.specs.declared.lease.Kind.{Kind}
use Rattle.format.specs.declared.lease.Mark.{Mark}
use Rattle.format.specs.declared.lease.LeaseRecord.{LeaseRecord}
use Rattle.format.specs.declared.events.Event.{Event}
use Rattle.format.specs.declared.events.LogEntry.{LogEntry}
use Rattle.format.specs.Stores.{read_answer}
use Rattle.format.specs.Times.{natural}
use Rattle.machine.specs.Room.{Room, World, at_room, host_at, with_disk, with_flights, with_host}
use Rattle.machine.specs.Outcomes.{Outcome, then}

-- the world after block r is read
abbrev pub read_at : World → ℕ → World
read_at w r = at_room w (with_disk w.room (after_read w.room.disk r block_length))

-- the world after bytes are written to block r
abbrev pub written_at : World → ℕ → List ℕ → World
written_at w r bytes = at_room w (with_disk w.room (after_write w.room.disk r bytes))

-- what follows from a record that was read
abbrev pub judged_by : {A : Type 0} → World → (World → LeaseRecord → Outcome A) → Result LeaseRecord Fault → Outcome A
judged_by w judge (Ok x) = judge w x
judged_by w judge (Err f) = record { answer = Err f; world = w }

-- block r is read: a fault of the disk, no record, or what follows from the record
abbrev pub reading_block : {A : Type 0} → World → ℕ → (World → LeaseRecord → Outcome A) → Outcome A
reading_block w r judge = judged_by (read_at w r) judge (read_answer w.room.disk r block_length)

-- block r is written: a fault of the disk, or what follows
abbrev pub writing_block : {A : Type 0} → World → ℕ → List ℕ → (World → Outcome A) → Outcome A
writing_block w r bytes next =
    let w' : World = written_at w r bytes in
    then (access_answer w.room.disk r (length bytes)) w' (next w')

-- a host's next write has its next stamp
abbrev pub next_mark : Room → ℕ → Mark
next_mark m h = record { owner = h; generation = (host_at m h).generation; stamp = (host_at m h).stamp + 1 }

-- at most 32 writes are in flight, and a host has 9,999 stamps in each generation
abbrev pub issue_tests : Room → ℕ → List (Bool × Refusal)
issue_tests m h = (nat_le 32 (length m.flights), FlightFull) ∷ (nat_le 9999 (host_at m h).stamp, NumberSpent) ∷ []

-- the host uses its next stamp, and the record is in flight
abbrev pub issued : Room → ℕ → Kind → ℕ → ℕ → Room
issued m h kind r term =
    with_flights
    (with_host m h (record { offset = (host_at m h).offset; up = (host_at m h).up; generation = (host_at m h).generation; stamp = (host_at m h).stamp + 1 }))
    (m.flights ++ (record { body = record { kind = kind; resource = r; mark = next_mark m h; term = term }; issued = record { 0 = m.tick } } ∷ []))

-- the entry of a lease that lasts until a reading of its host, told as a tick
abbrev pub lease_entry : Room → Event → ℕ → ℕ → ℕ → ℤ → LogEntry
lease_entry m event h r term until =
    record { tick = record { 0 = m.tick }; event = event; host = h; resource = r; term = term; until = record { 0 = natural (until +ℤ (host_at m h).offset) } }

-- the entry of an event without an end
abbrev pub plain_entry : Room → Event → ℕ → ℕ → ℕ → LogEntry
plain_entry m event h r term =
    record { tick = record { 0 = m.tick }; event = event; host = h; resource = r; term = term; until = record { 0 = 0 } }
