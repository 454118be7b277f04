use Rattle.std.proofs.Common.{arith}
use Rattle.room.proofs.room.Room.format_blocks.Goals as goal

pub returns-clause-world : goal.returns-clause-world
returns-clause-world g c =
    let opened = c.set_open.ensures (g.D.Disk.meaning c.loop-resource.self.disk) in
    grind arith
