use Rattle.std.proofs.Common.{◌<◌, length, arith, rules}
use Rattle.std.proofs.lemmas.Slice.{overwrites}
use Rattle.disk.specs.Images.{plain, plain_block, whole_blocks}
use Rattle.disk.specs.Bounds.{count_plain, block_plain}
use Rattle.disk.proofs.Accesses.{admitted, reached}
use Rattle.disk.proofs.ImageBlocks.{plain_written, plain_outside_kept}
use Rattle.disk.proofs.plain.PlainImageDisk.write.Goals as goal

pub returns : goal.returns
returns c =
    let bytes = c.args.self.now.bytes.now in
    let n = c.args.number in
    let area = c.args.area.now in
    let a = admitted (plain bytes) n (length area) c.count.ensures c.in_ok-admit.ensures in
    let r = reached (plain bytes) n (length area) area (plain_block bytes n) a (block_plain bytes n a.within) in
    let l : n < whole_blocks bytes = omega (arith, a.within, count_plain bytes) in
    let k = plain_written bytes n area a.whole l in
    let o = plain_outside_kept bytes n area a.whole l in
    search (rules, overwrites)
