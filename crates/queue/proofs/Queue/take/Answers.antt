-- The queue is empty, or its first entry is not due, or it is handed out.
use Rattle.std.proofs.Common.{◌+◌, ◌-◌, ◌++◌, take, drop, None, Some, arith}
use Rattle.std.proofs.lemmas.Grind.{common_steps}
use Rattle.queue.specs.Schedule.{by_tick}
use Rattle.queue.specs.Holdings.{entries}
use Rattle.queue.proofs.Order.{by_tick_lawful, take_law}
use Rattle.queue.proofs.Queue.take.Goals as goal

pub returns-in_err-first-clause-law : goal.returns-in_err-first-clause-law
returns-in_err-first-clause-law g c =
    let q = c.args.self.now in
    take_law (by_tick g.T.Due.tick) (by_tick_lawful g.T.Due.tick) c.args.t (entries q) c.from_residual.result (entries q) (grind (arith, common_steps)) (grind (arith, common_steps))

pub returns-then-due-t-clause-law : goal.returns-then-due-t-clause-law
returns-then-due-t-clause-law g c =
    let q = c.args.self.now in
    take_law (by_tick g.T.Due.tick) (by_tick_lawful g.T.Due.tick) c.args.t (entries q) None (entries q) (grind (arith, common_steps)) (grind (arith, common_steps))

pub returns-clause-law : goal.returns-clause-law
returns-clause-law g c =
    let q = c.args.self.now in
    let left = take (q.count - 1) (c.rotate_left.new.self ++ drop (q.count - 1 + 1) q.list.now) in
    take_law (by_tick g.T.Due.tick) (by_tick_lawful g.T.Due.tick) c.args.t (entries q) (Some c.in_ok-first.field-0.now) left (grind (arith, common_steps)) (grind (arith, common_steps))
