use Rattle.std.proofs.Common.{◌≡◌, arith}
use Rattle.std.proofs.lemmas.Grind.{common_steps}
use Rattle.machine.proofs.Runs.{stays_sound_lem}
use Rattle.machine.specs.Calls.{after}
use Rattle.machine.specs.Soundness.{fresh_world}
use Rattle.room.specs.Rooms.{as_world}
use Rattle.room.specs.Runs.{calls_of}
use Rattle.room.proofs.soundness.sound_run.Goals as goal

pub returns-clause-sound : goal.returns-clause-sound
returns-clause-sound g c =
    let d = g.D.Disk.meaning c.args.disk in
    let cs = calls_of c.args.calls.now c.args.area.now in
    let ran : as_world g.D.Disk.meaning c.loop-call.room c.loop-call.log ≡ after (fresh_world c.args.settings d c.args.log.now) cs = grind (arith, common_steps) in
    rw ran ((stays_sound_lem c.args.settings d c.args.log.now).0 cs)

pub returns-clause-rising : goal.returns-clause-rising
returns-clause-rising g c = (stays_sound_lem c.args.settings (g.D.Disk.meaning c.args.disk) c.args.log.now).1
