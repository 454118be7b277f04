use Rattle.std.proofs.Common.{refl}
use Rattle.machine.proofs.Runs.{stays_sound_lem}
use Rattle.room.proofs.room.Room.found.Goals as goal

pub returns : goal.returns
returns g c =
    let d = g.D.Disk.meaning c.args.disk in
    record { room = c.new.ensures d; outside = refl; sound = rw (c.new.ensures d) (stays_sound_lem c.args.settings d) }
