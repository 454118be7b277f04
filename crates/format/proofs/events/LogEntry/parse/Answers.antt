use Rattle.std.proofs.Common.{rules}
use Rattle.format.specs.Logs.{PrintsLine}
use Rattle.format.proofs.Candidates.{checked}
use Rattle.format.proofs.Lines.{reads_line}
use Rattle.format.proofs.events.LogEntry.parse.Goals as goal

pub returns : goal.returns
returns c =
    let text = c.args.text.now in
    let found = checked (λ p. PrintsLine p.0 p.1 text) c.candidate.result c.filter.result _ c.candidate.ensures c.filter.ensures (λ y b p. search rules) in
    rw c.ok_or.ensures.value (reads_line text c.filter.result found)
