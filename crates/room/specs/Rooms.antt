-- A room in code as a room of the rules.
use Rattle.std.specs.Prelude.{ℕ, List, length, replicate}
use Rattle.disk.specs.Model.{DiskModel}
use Rattle.format.specs.declared.events.LogEntry.{LogEntry}
use Rattle.machine.specs.Room.{World}
use Rattle.machine.specs.Room as rules
use Rattle.board.specs.Over.{over, world_over}
use Rattle.room.specs.declared.room.Room.{Room}

-- the room that the rules speak of: its board above the meaning of its disk
abbrev pub as_room : {D : Type 0} → (D → DiskModel) → Room D → rules.Room
as_room meaning x = over (meaning x.disk) x.board

-- with the list that its log lies in
abbrev pub as_world : {D : Type 0} → (D → DiskModel) → Room D → List LogEntry → World
as_world meaning x log = world_over (meaning x.disk) x.board log

-- an area that is all zero
abbrev pub zeros : List ℕ → List ℕ
zeros area = replicate (length area) 0
