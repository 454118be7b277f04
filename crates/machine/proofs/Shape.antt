-- What a room's lists and numbers keep, and what a call leaves.
use Rattle.std.proofs.Common.{◌≡◌, ℕ, ◌<◌, ◌≤◌, Bool, true, false, not, ◌&&◌, ltb, ◌⊎◌, List, [], length, get_or, ℤ, Some, None, Option, ap, arith}
use Rattle.std.proofs.lemmas.Bool.{not-false, and_parts, and_from, ltb-true, lt-ltb}
use Rattle.machine.specs.declared.types.Pending.{Pending}
use Rattle.machine.specs.declared.types.Seat.{Seat}
use Rattle.machine.specs.declared.types.Seat.TheVariants as seats
use Rattle.machine.specs.declared.types.Host.{Host}
use Rattle.machine.specs.declared.types.Flight.{Flight}
use Rattle.machine.specs.declared.settings.Settings.{Settings}
use Rattle.machine.specs.Room.{World, no_host}
use Rattle.machine.specs.Outcomes.{standing}
use Rattle.machine.specs.Limits.{Bounded}
use Rattle.machine.specs.View.{view, In}
use Rattle.machine.specs.Moves.{Move}
use Rattle.machine.proofs.Records.{Valid}
use Rattle.machine.proofs.Core.{Core}
use Rattle.machine.proofs.Flights.{Apart}
use Rattle.machine.proofs.Tests.{AllFalse}
use Rattle.machine.proofs.Times.{Ticks}

-- a seat's times are ticks, and its term is one that a record can hold
abbrev pub WholePending : ℤ → Option Pending → Type 0
WholePending o None = Unit {0}
WholePending o (Some p) = Ticks o p.issued.0

-- so for every seat
abbrev pub Whole : ℤ → Seat → Type 0
Whole o seats.Idle = Unit {0}
Whole o (seats.Watching seen since) = Ticks o since.0
Whole o (seats.Claimed mark term issued) = Ticks o issued.0 × (1 ≤ term) × (term < 1000000)
Whole o (seats.Held term until pending) = Ticks o until.0 × (1 ≤ term) × (term < 1000000) × WholePending o pending

-- the seat of host h for r in these rows
abbrev pub seat_in : List (List Seat) → ℕ → ℕ → Seat
seat_in rows h r = get_or (get_or rows h []) r seats.Idle

-- hosts and rows of seats
pub record Seated (s : Settings) (hosts : List Host) (rows : List (List Seat)) : Type 0 where
  pub bounded : Bounded s
  pub hosts_long : length hosts ≡ 16
  pub rows_long : length rows ≡ 16
  pub row : (h : ℕ) → h < 16 → length (get_or rows h []) ≡ 8
  pub aged : (h : ℕ) → h < 16 → (1 ≤ (get_or hosts h no_host).generation) × ((get_or hosts h no_host).generation < 65536)
  pub whole : (h r : ℕ) → Whole (get_or hosts h no_host).offset (seat_in rows h r)
  pub spare : (h r : ℕ) → (seat_in rows h r ≡ seats.Idle) ⊎ ((h < s.hosts) × (r < s.resources))

-- writes in flight
pub record Flying (s : Settings) (flights : List Flight) : Type 0 where
  pub apart : Apart flights
  pub valid : (f : Flight) → In f flights → Valid f.body × (f.body.resource < s.resources)

-- what a room that has not been opened holds
pub record Closed (rows : List (List Seat)) (fs : List Flight) (n : ℕ) : Type 0 where
  pub seats : (h r : ℕ) → seat_in rows h r ≡ seats.Idle
  pub flights : fs ≡ []
  pub logged : n ≡ 0

pub record Shape (w : World) : Type 0 where
  pub seated : Seated w.room.settings w.room.hosts w.room.seats
  pub flying : Flying w.room.settings w.room.flights
  pub blocks : w.room.opened ≡ true → w.room.settings.resources ≤ length w.room.disk.blocks
  pub closed : w.room.opened ≡ false → Closed w.room.seats w.room.flights w.room.logged

pub record Inv (w : World) : Type 0 where
  pub shape : Shape w
  pub core : Core w.room.settings (view w)

-- what a call leaves keeps the invariant again, no grant is forgotten, and the call was one of the moves
pub record Kept (w v : World) : Type 0 where
  pub inv : Inv v
  pub tops : (r : ℕ) → (view w).top r ≤ (view v).top r
  pub moved : Move w.room.settings (view w) (view v)

-- the same of a run
pub record Ran (w v : World) : Type 0 where
  pub inv : Inv v
  pub tops : (r : ℕ) → (view w).top r ≤ (view v).top r

-- the room is open, host h and resource r are there, and h is up
pub record Standing (o : Bool) (s : Settings) (hosts : List Host) (h r : ℕ) : Type 0 where
  pub opened : o ≡ true
  pub host : h < s.hosts
  pub resource : r < s.resources
  pub up : (get_or hosts h no_host).up ≡ true

abbrev pub Stand : World → ℕ → ℕ → Type 0
Stand w h r = Standing w.room.opened w.room.settings w.room.hosts h r

-- what the tests of a standing host say
pub stands : (w : World) (h r : ℕ) → AllFalse (standing w.room h r) → Stand w h r
stands w h r f =
    let m = w.room in
    let p = and_parts (ltb h m.settings.hosts) (ltb r m.settings.resources) (not-false (ltb h m.settings.hosts && ltb r m.settings.resources) f.1.0) in
    record {
      opened = not-false m.opened f.0;
      host = ltb-true h m.settings.hosts p.0;
      resource = ltb-true r m.settings.resources p.1;
      up = not-false (get_or m.hosts h no_host).up f.1.1.0;
    }

-- and the other way round
pub stood : (w : World) (h r : ℕ) → Stand w h r → AllFalse (standing w.room h r)
stood w h r t =
    let m = w.room in (
      ap not t.opened,
      (ap not (and_from (ltb h m.settings.hosts) (ltb r m.settings.resources) (lt-ltb h m.settings.hosts t.host) (lt-ltb r m.settings.resources t.resource)), (ap not t.up, tt)),
    )

-- such a host is one of 16
pub few_hosts : {w : World} {h r : ℕ} → Shape w → Stand w h r → h < 16
few_hosts s t = omega arith

-- such a resource is one of 8
pub few_resources : {w : World} {h r : ℕ} → Shape w → Stand w h r → r < 8
few_resources s t = omega arith
