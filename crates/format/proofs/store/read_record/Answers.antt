use Rattle.std.proofs.Common.{length, Err, sym, ap, ◌∙◌, rules}
use Rattle.std.proofs.lemmas.Result.{err_from_is_err_and}
use Rattle.disk.specs.Model.{height_above, area_after_read}
use Rattle.format.specs.Stores.{read_answer, and_then, placed}
use Rattle.format.proofs.Storing.{refused_area, reads_exactly}
use Rattle.format.proofs.store.read_record.Goals as goal

pub returns-in_err-read-clause-answer : goal.returns-in_err-read-clause-answer
unfolding read_answer
returns-in_err-read-clause-answer g c =
    let m = g.D.Disk.meaning c.args.disk.now in
    let n = c.args.resource in
    let size = length c.args.area.now in
    let p = err_from_is_err_and c.from_residual.result c.from_residual.ensures.1 in
    p.1 ∙ ap Err p.2 ∙ ap (λ a. and_then a (placed n (height_above m.height) (area_after_read m n size))) c.in_err-read.ensures.answer

pub returns-in_err-read-clause-exact : goal.returns-in_err-read-clause-exact
returns-in_err-read-clause-exact g c x = reads_exactly (g.D.Disk.meaning c.args.disk.now) _ _ x _ (returns-in_err-read-clause-answer g c)

pub returns-in_err-read-clause-area : goal.returns-in_err-read-clause-area
returns-in_err-read-clause-area g c = c.read.ensures.area ∙ refused_area (g.D.Disk.meaning c.args.disk.now) _ _ _ (sym c.in_err-read.ensures.answer)

pub returns-clause-answer : goal.returns-clause-answer
unfolding read_answer
returns-clause-answer g c = search rules

pub returns-clause-exact : goal.returns-clause-exact
returns-clause-exact g c x = reads_exactly (g.D.Disk.meaning c.args.disk.now) _ _ x _ (returns-clause-answer g c)
