-- A room as its moves see it: every time is a tick of the room, and tables are functions.
use Rattle.std.specs.Prelude.{ℕ, max, Bool, cond, ◌&&◌, List, [], ◌∷◌, ℤ, ◌+ℤ◌, Some, None, Ok, Err, Option, Result, ◌==◌, nat_lt, unsigned_abs}
use Rattle.disk.specs.declared.fault.Refusal.{Refusal}
use Rattle.format.specs.declared.lease.Kind.TheVariants.{Owned}
use Rattle.format.specs.declared.lease.Mark.{Mark}
use Rattle.format.specs.declared.lease.LeaseRecord.{LeaseRecord}
use Rattle.machine.specs.declared.types.Pending.{Pending}
use Rattle.machine.specs.declared.types.Seat.{Seat}
use Rattle.machine.specs.declared.types.Seat.TheVariants as seats
use Rattle.machine.specs.declared.types.Flight.{Flight}
use Rattle.format.specs.declared.events.LogEntry.{LogEntry}
use Rattle.format.specs.declared.events.Event.TheVariants as events
use Rattle.disk.specs.Model.{block}
use Rattle.format.specs.Blocks.{decoded}
use Rattle.machine.specs.Room.{Room, World, host_at, seat_at}
use Rattle.machine.specs.Soundness.{begins, ends, entries}

-- a renewal that was asked for: its mark and the tick of its issue
pub record Asked : Type 0 where
  pub mark : Mark
  pub at : ℕ

-- a seat, its times as ticks
pub data Place : Type 0 where
  idle : Place
  watching : LeaseRecord → ℕ → Place
  claimed : Mark → ℕ → ℕ → Place
  held : ℕ → ℕ → Option Asked → Place

-- whom a log names for a resource, and until which tick
pub data Owner : Type 0 where
  nobody : Owner
  lasting : ℕ → ℕ → Owner

-- tick, hosts (up, generation, last stamp used), seats, what each block reads as, writes in flight, whom the log names
-- and the highest granted term for each resource
pub record View : Type 0 where
  pub tick : ℕ
  pub up : ℕ → Bool
  pub gen : ℕ → ℕ
  pub stamp : ℕ → ℕ
  pub seat : ℕ → ℕ → Place
  pub block : ℕ → Option LeaseRecord
  pub flights : List Flight
  pub named : ℕ → Owner
  pub top : ℕ → ℕ

-- f is among the flights
pub data In (f : Flight) : List Flight → Type 0 where
  here : {fs : List Flight} → In f (f ∷ fs)
  there : {g : Flight} {fs : List Flight} → In f fs → In f (g ∷ fs)

-- a host's reading as a tick
abbrev pub ticked : ℤ → ℤ → ℕ
ticked offset z = unsigned_abs (z +ℤ offset)

-- a pending renewal, its time as a tick
abbrev pub asked : ℤ → Option Pending → Option Asked
asked offset None = None
asked offset (Some p) = Some (record { mark = p.mark; at = ticked offset p.issued.0 })

-- a seat as a place
abbrev pub placed : ℤ → Seat → Place
placed offset seats.Idle = idle
placed offset (seats.Watching seen since) = watching seen (ticked offset since.0)
placed offset (seats.Claimed mark term issued) = claimed mark term (ticked offset issued.0)
placed offset (seats.Held term until pending) = held term (ticked offset until.0) (asked offset pending)

-- who is named after an entry that begins no lease
abbrev pub ended : LogEntry → ℕ → Owner → Owner
ended e r nobody = nobody
ended e r (lasting h u) = cond (ends e h r) nobody (lasting h u)

-- who is named after the entry e
abbrev pub named_by : Owner → LogEntry → ℕ → Owner
named_by o e r = cond (begins e r) (lasting e.host e.until.0) (ended e r o)

-- whom the log names, o being named before it
abbrev pub owner : Owner → List LogEntry → ℕ → Owner
owner o [] r = o
owner o (e ∷ es) r = owner (named_by o e r) es r

-- the term of a grant of r, or 0
abbrev pub grant_of : LogEntry → ℕ → ℕ
grant_of e r = elim e.event [
  | events.Granted ↦ cond (e.resource == r) e.term 0
  | events.Renewed ↦ 0
  | events.Released ↦ 0
  | events.Expired ↦ 0
  | events.Crashed ↦ 0
]

-- the highest granted term of r in a log, n being the highest before it
abbrev pub highest : ℕ → List LogEntry → ℕ → ℕ
highest n [] r = n
highest n (e ∷ es) r = highest (max n (grant_of e r)) es r

-- the record that bytes are
abbrev pub record_by : Result LeaseRecord Refusal → Option LeaseRecord
record_by (Ok x) = Some x
record_by (Err _) = None

-- the record that bytes read as
abbrev pub record_of : List ℕ → Option LeaseRecord
record_of bytes = record_by (decoded bytes)

-- what block r reads as: nothing where the room is closed or has no such resource
abbrev pub record_at : Room → ℕ → Option LeaseRecord
record_at m r = cond (m.opened && nat_lt r m.settings.resources) (record_of (block m.disk r).bytes) None

-- the view of a world
unfoldable pub view : World → View
view w = record {
  tick = w.room.tick;
  up = λ h. (host_at w.room h).up;
  gen = λ h. (host_at w.room h).generation;
  stamp = λ h. (host_at w.room h).stamp;
  seat = λ h r. placed (host_at w.room h).offset (seat_at w.room h r);
  block = λ r. record_at w.room r;
  flights = w.room.flights;
  named = λ r. owner nobody (entries w) r;
  top = λ r. highest 0 (entries w) r;
}

-- the record that a claim issues
abbrev pub claim_record : ℕ → Mark → ℕ → LeaseRecord
claim_record r m k = record { kind = Owned; resource = r; mark = m; term = k }
