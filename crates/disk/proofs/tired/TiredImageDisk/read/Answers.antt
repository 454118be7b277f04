use Rattle.std.proofs.Common.{◌≡◌, ◌∙◌, length, rules}
use Rattle.disk.specs.Model.{block}
use Rattle.disk.specs.Images.{tired}
use Rattle.disk.proofs.Accesses.{admitted}
use Rattle.disk.proofs.TiredBlocks.{failed, read_passed}
use Rattle.disk.proofs.tired.TiredImageDisk.read.Goals as goal

pub returns-in_err-zero_if_refused : goal.returns-in_err-zero_if_refused
returns-in_err-zero_if_refused c =
    let m = tired c.args.self.now.image.bytes.now c.args.self.now.tallies.now in
    let n = c.args.number in
    let a = admitted m n (length c.args.area.now) c.count.ensures c.in_ok-admit_read.ensures.admission in
    let bad = rw (← c.in_err-zero_if_refused.ensures.answer) at c.count_access.ensures.answer in
    let r = failed _ _ n _ a (block m n).bytes bad.0 in
    search rules

pub returns : goal.returns
returns c =
    let m = tired c.args.self.now.image.bytes.now c.args.self.now.tallies.now in
    let n = c.args.number in
    let a = admitted m n (length c.args.area.now) c.count.ensures c.in_ok-admit_read.ensures.admission in
    let fine = rw (← c.in_ok-zero_if_refused.ensures.answer) at c.count_access.ensures.answer in
    let long : length c.zero_if_refused.new.area ≡ length c.args.area.now = c.zero_if_refused.auto.area ∙ c.admit_read.auto.area in
    let r = read_passed _ _ n _ a c.read.new.self.bytes.now fine (rw long at c.read.ensures.disk) c.read.ensures.outside in
    search rules
