use Rattle.std.proofs.Common.{w32, arith}
use Rattle.std.proofs.lemmas.Int.{to_z-of_z}
use Rattle.format.specs.Offsets.{offset_text}
use Rattle.format.proofs.Cutting.{whole}
use Rattle.format.proofs.Signs.{length_offset}
use Rattle.format.proofs.offset.offset_line.Goals as goal

pub returns : goal.returns
returns c =
    let added = rw (to_z-of_z w32 c.args.offset c.ranges.offset) at c.push_offset.ensures in
    let long = length_offset c.args.offset c.ranges.offset in
    whole _ _ (offset_text c.args.offset) c.new-line.ensures added (omega arith)
