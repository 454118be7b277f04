use Rattle.std.proofs.Common.{length, rules}
use Rattle.disk.specs.Images.{tired}
use Rattle.disk.proofs.Accesses.{admitted}
use Rattle.disk.proofs.TiredBlocks.{failed, passed}
use Rattle.disk.proofs.tired.TiredImageDisk.write.Goals as goal

pub returns-in_err-count_access : goal.returns-in_err-count_access
returns-in_err-count_access c =
    let m = tired c.args.self.now.image.bytes.now c.args.self.now.tallies.now in
    let area = c.args.area.now in
    let a = admitted m c.args.number (length area) c.count.ensures c.in_ok-admit.ensures in
    let r = failed _ _ c.args.number _ a area c.in_err-count_access.ensures.answer.0 in
    search rules

pub returns : goal.returns
returns c =
    let m = tired c.args.self.now.image.bytes.now c.args.self.now.tallies.now in
    let area = c.args.area.now in
    let a = admitted m c.args.number (length area) c.count.ensures c.in_ok-admit.ensures in
    let r = passed _ _ c.args.number _ a area _ a.whole c.in_ok-count_access.ensures.answer c.write.ensures.disk c.write.ensures.outside in
    search rules
