use Rattle.std.proofs.Common.{◌≡◌, rules, to_z, of_z, w32, sym, take}
use Rattle.report.proofs.Telling.{reads}
use Rattle.report.proofs.LogReportDisplay.fmt.Goals as goal

pub returns-in_ok-text-in-Ok-clause-writes : goal.returns-in_ok-text-in-Ok-clause-writes
returns-in_ok-text-in-Ok-clause-writes g c =
    let z = to_z w32 (of_z w32 c.args.self.now.offset) in
    let plain : z ≡ c.args.self.now.offset = search rules in
    let shown : c.in_ok-text-in-Ok.text.now ≡ take c.in-Ok.length c.print.new.buffer = search rules in
    let told = reads c.args.self.now z c.in_ok-text-in-Ok.text.now _ c.print.new.buffer c.in-Ok.length c.reads_back.result plain c.in-Ok.ensures.answer c.in-Ok.ensures.buffer shown c.reads_back.ensures in
    rw (sym told) c.write.ensures.writes
