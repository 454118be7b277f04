use Rattle.std.proofs.Common.{◌≡◌, drop}
use Rattle.machine.specs.Calls.{after}
use Rattle.room.specs.Rooms.{as_world}
use Rattle.room.specs.Runs.{calls_of}
use Rattle.room.proofs.soundness.sound_run.Given as goal

-- the calls that are left give what all of them give, and nothing outside the disk's blocks has changed
abbrev pub invariant-loop-call : goal.invariant-loop-call
invariant-loop-call g l =
    (after (as_world g.D.Disk.meaning l.room l.log) (calls_of (drop l.call-index l.calls) l.area)
    ≡ after (as_world g.D.Disk.meaning l.initial.room l.initial.log) (calls_of l.calls l.initial.area))
    × (g.D.Disk.outside l.room.disk ≡ g.D.Disk.outside l.initial.room.disk)
