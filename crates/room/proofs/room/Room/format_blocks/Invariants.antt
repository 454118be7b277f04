use Rattle.std.proofs.Common.{◌≡◌, ◌-◌, List}
use Rattle.format.specs.declared.events.LogEntry.{LogEntry}
use Rattle.machine.specs.Setup.{formatting}
use Rattle.room.specs.Rooms.{as_world}
use Rattle.room.proofs.room.Room.format_blocks.Given as goal

-- what is left comes to what the whole comes to, the area is all zero again, and nothing outside the blocks has changed
abbrev pub invariant-loop-resource : goal.invariant-loop-resource
invariant-loop-resource g l =
    ((log : List LogEntry) → formatting (as_world g.D.Disk.meaning l.self log) l.resource (l.resources - l.resource) ≡ formatting (as_world g.D.Disk.meaning l.initial.self log) 0 l.resources)
    × (l.area ≡ l.initial.area)
    × (g.D.Disk.outside l.self.disk ≡ g.D.Disk.outside l.initial.self.disk)
