use Rattle.room.specs.Rooms.{as_world}
use Rattle.room.specs.Runs.{call_of}
use Rattle.room.proofs.Sound.{stays_sound_by}
use Rattle.room.proofs.room.Room.perform.Goals as goal

pub returns-clause-sound : goal.returns-clause-sound
returns-clause-sound g c = stays_sound_by (call_of c.args.call c.args.area.now) (as_world g.D.Disk.meaning c.args.self.now c.args.log.now) _ c.make-answer.ensures.world
