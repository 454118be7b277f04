use Rattle.std.proofs.Common.{length, rules}
use Rattle.disk.specs.Layers.{spanned}
use Rattle.disk.proofs.Accesses.{admitted}
use Rattle.disk.proofs.Spans.{below}
use Rattle.disk.proofs.span.SpanDisk.write.Goals as goal

pub returns : goal.returns
returns g c =
    let s = c.args.self.now in
    let m = g.D.Disk.meaning s.below in
    let n = c.args.number in
    let area = c.args.area.now in
    let a = admitted (spanned s.base s.length m) n (length area) c.count.ensures c.in_ok-admit.ensures in
    let w = below s.base s.length m n (length area) area (g.D.Disk.outside s.below) a in
    search rules
