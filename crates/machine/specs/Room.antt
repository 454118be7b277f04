-- A room and its parts, and how one of them is changed.
use Rattle.std.specs.Prelude.{ℕ, ◌+◌, Bool, true, false, List, [], replicate, ℤ, pos, slice_index_or, slice_set}
use Rattle.disk.specs.Model.{DiskModel}
use Rattle.format.specs.declared.events.LogEntry.{LogEntry}
use Rattle.format.specs.Times.{reading_at}
use Rattle.machine.specs.declared.settings.Settings.{Settings}
use Rattle.machine.specs.declared.types.Seat.{Seat}
use Rattle.machine.specs.declared.types.Seat.TheVariants as seats
use Rattle.machine.specs.declared.types.Host.{Host}
use Rattle.machine.specs.declared.types.Flight.{Flight}

-- a room: its settings and disk, whether it is open, its tick, hosts, seats by host and resource, the writes in flight
-- in order of issue, and how many entries it has logged
pub record Room : Type 0 where
  pub settings : Settings
  pub disk : DiskModel
  pub opened : Bool
  pub tick : ℕ
  pub hosts : List Host
  pub seats : List (List Seat)
  pub flights : List Flight
  pub logged : ℕ

-- a room with the list that its log lies in
pub record World : Type 0 where
  pub room : Room
  pub log : List LogEntry

-- a room as it is founded: closed, at tick 0, clocks right, hosts up in generation 1, seats idle
abbrev pub founded : Settings → DiskModel → Room
founded s d =
    record {
      settings = s;
      disk = d;
      opened = false;
      tick = 0;
      hosts = replicate 16 (record { offset = pos 0; up = true; generation = 1; stamp = 0 });
      seats = replicate 16 (replicate 8 seats.Idle);
      flights = [];
      logged = 0;
    }

-- what stands where no host is
abbrev pub no_host : Host
no_host = record { offset = pos 0; up = false; generation = 0; stamp = 0 }

-- host h
abbrev pub host_at : Room → ℕ → Host
host_at m h = slice_index_or m.hosts h no_host

-- the seat of host h for resource r
abbrev pub seat_at : Room → ℕ → ℕ → Seat
seat_at m h r = slice_index_or (slice_index_or m.seats h []) r seats.Idle

-- what the clock of host h reads now
abbrev pub reading : Room → ℕ → ℤ
reading m h = reading_at m.tick (host_at m h).offset

-- a room with another disk
abbrev pub with_disk : Room → DiskModel → Room
with_disk m d = record { settings = m.settings; disk = d; opened = m.opened; tick = m.tick; hosts = m.hosts; seats = m.seats; flights = m.flights; logged = m.logged }

-- with another host h
abbrev pub with_host : Room → ℕ → Host → Room
with_host m h x = record { settings = m.settings; disk = m.disk; opened = m.opened; tick = m.tick; hosts = slice_set m.hosts h x; seats = m.seats; flights = m.flights; logged = m.logged }

-- with other seats of host h
abbrev pub with_row : Room → ℕ → List Seat → Room
with_row m h row = record { settings = m.settings; disk = m.disk; opened = m.opened; tick = m.tick; hosts = m.hosts; seats = slice_set m.seats h row; flights = m.flights; logged = m.logged }

-- with another seat of host h for r
abbrev pub with_seat : Room → ℕ → ℕ → Seat → Room
with_seat m h r x = with_row m h (slice_set (slice_index_or m.seats h []) r x)

-- with other writes in flight
abbrev pub with_flights : Room → List Flight → Room
with_flights m fs = record { settings = m.settings; disk = m.disk; opened = m.opened; tick = m.tick; hosts = m.hosts; seats = m.seats; flights = fs; logged = m.logged }

-- the same log list with another room
abbrev pub at_room : World → Room → World
at_room w m = record { room = m; log = w.log }

-- one entry more, written at the place that the room has counted to
abbrev pub noted : World → LogEntry → World
noted w e =
    let m = w.room in
    record {
      room = record { settings = m.settings; disk = m.disk; opened = m.opened; tick = m.tick; hosts = m.hosts; seats = m.seats; flights = m.flights; logged = m.logged + 1 };
      log = slice_set w.log m.logged e;
    }
