use Rattle.std.proofs.Common.{rules}
use Rattle.format.specs.Offsets.{PrintsOffset}
use Rattle.format.proofs.Candidates.{checked}
use Rattle.format.proofs.Signs.{reads_offset}
use Rattle.format.proofs.offset.read_offset.Goals as goal

pub returns : goal.returns
returns c =
    let text = c.args.text.now in
    let found = checked (λ z. PrintsOffset z text) c.candidate_offset.result c.filter.result _ c.candidate_offset.ensures c.filter.ensures (λ y b p. search rules) in
    rw c.ok_or.ensures.value (reads_offset text c.filter.result found)
