use Rattle.std.proofs.Common.{arith}
use Rattle.format.specs.Stores.{after_record, write_answer}
use Rattle.format.proofs.Decoding.{length_block}
use Rattle.machine.specs.Writes.{land_call}
use Rattle.room.proofs.room.Room.land.Goals as goal

pub returns-clause-world : goal.returns-clause-world
unfolding after_record write_answer land_call
returns-clause-world g c =
    let out = c.take_out.ensures (g.D.Disk.meaning c.write_record.new.disk) in
    grind (arith, length_block)
