use Rattle.std.proofs.Common.{length, rules}
use Rattle.disk.specs.Model.{block}
use Rattle.disk.specs.Images.{plain, plain_block}
use Rattle.disk.specs.Bounds.{block_plain}
use Rattle.disk.proofs.Accesses.{admitted, reached}
use Rattle.disk.proofs.ImageBlocks.{plain_read}
use Rattle.disk.proofs.plain.PlainImageDisk.read.Goals as goal

pub returns : goal.returns
returns c =
    let bytes = c.args.self.now.bytes.now in
    let n = c.args.number in
    let size = length c.args.area.now in
    let a = admitted (plain bytes) n size c.count.ensures c.in_ok-admit_read.ensures.admission in
    let r = reached (plain bytes) n size (block (plain bytes) n).bytes (plain_block bytes n) a (block_plain bytes n a.within) in
    let k = plain_read bytes n in
    search rules
