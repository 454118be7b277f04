use Rattle.std.proofs.Common.{length, rules}
use Rattle.disk.specs.Model.{block}
use Rattle.disk.specs.Layers.{spanned}
use Rattle.disk.proofs.Accesses.{admitted}
use Rattle.disk.proofs.Spans.{below}
use Rattle.disk.proofs.span.SpanDisk.read.Goals as goal

pub returns : goal.returns
returns g c =
    let s = c.args.self.now in
    let m = g.D.Disk.meaning s.below in
    let top = spanned s.base s.length m in
    let n = c.args.number in
    let size = length c.args.area.now in
    let a = admitted top n size c.count.ensures c.in_ok-admit_read.ensures.admission in
    let r = below s.base s.length m n size (block top n).bytes (g.D.Disk.outside s.below) a in
    search rules
