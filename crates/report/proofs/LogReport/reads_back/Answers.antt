use Rattle.std.proofs.Common.{◌≡◌, rules, to_z, of_z, w32}
use Rattle.std.proofs.lemmas.Bool.Decides.{Decides-at}
use Rattle.report.proofs.Reading.{read_back}
use Rattle.report.proofs.LogReport.reads_back.Goals as goal

pub returns-in-Ok : goal.returns-in-Ok
returns-in-Ok c =
    let plain : to_z w32 (of_z w32 c.args.self.offset) ≡ c.args.self.offset = search rules in
    Decides-at _ _ c.eq.ensures (read_back c.args.line.now c.args.self.entry c.in-Ok.read.0 c.in-Ok.read.1 _ c.args.self.offset plain (search rules))
