-- A board as a room of the rules.
use Rattle.std.specs.Prelude.{List, []}
use Rattle.disk.specs.Model.{DiskModel}
use Rattle.format.specs.declared.events.LogEntry.{LogEntry}
use Rattle.machine.specs.Room.{Room, World}
use Rattle.board.specs.declared.board.Board.{Board}

-- the room that this board and a disk are
abbrev pub over : DiskModel → Board → Room
over d b =
    record {
      settings = b.settings;
      disk = d;
      opened = b.opened;
      tick = b.tick.0;
      hosts = b.hosts;
      seats = b.seats.rows;
      flights = b.flights.items;
      logged = b.logged;
    }

-- with the list that the log lies in
abbrev pub world_over : DiskModel → Board → List LogEntry → World
world_over d b log = record { room = over d b; log = log }

-- no disk at all, for what looks at none
abbrev pub no_disk : DiskModel
no_disk = record { height = 0; blocks = [] }

-- the board alone
abbrev pub alone : Board → Room
alone b = over no_disk b

-- with the list that the log lies in
abbrev pub alone_with : Board → List LogEntry → World
alone_with b log = world_over no_disk b log
