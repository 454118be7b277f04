-- The list is full, or the entry goes to its place.
use Rattle.std.proofs.Common.{◌<◌, length, Ok, Err, sym, ap, ◌∙◌, arith}
use Rattle.std.specs.List.{insert}
use Rattle.std.proofs.lemmas.Bool.{lt-ltb, cond-true}
use Rattle.std.proofs.lemmas.Grind.{common_steps}
use Rattle.disk.specs.declared.fault.Refusal.TheVariants.{QueueFull}
use Rattle.queue.specs.Schedule.{by_tick}
use Rattle.queue.specs.Holdings.{entries, capacity}
use Rattle.queue.proofs.Placing.{placed_at, brought}
use Rattle.queue.proofs.Order.{push_law}
use Rattle.queue.proofs.Queue.push.Goals as goal

pub returns-then-self-clause-law : goal.returns-then-self-clause-law
returns-then-self-clause-law g c =
    let q = c.args.self.now in
    push_law (by_tick g.T.Due.tick) (capacity q) c.args.entry (entries q) (Err QueueFull) (entries q) (grind (arith, common_steps)) (grind (arith, common_steps))

pub returns-clause-after : goal.returns-clause-after
returns-clause-after g c =
    let q = c.args.self.now in
    let room : length (entries q) < capacity q = grind (arith, common_steps) in
    brought q.list.now c.rotate_right.new.self c.place-at.result q.count c.args.entry c.place-at.ensures.within (omega arith) c.rotate_right.ensures.after
    ∙ ap (λ i. insert (entries q) i c.args.entry) c.place-at.ensures.front
    ∙ placed_at (by_tick g.T.Due.tick) c.args.entry (entries q)
    ∙ sym (cond-true _ _ _ (lt-ltb _ _ room))

pub returns-clause-law : goal.returns-clause-law
returns-clause-law g c =
    let q = c.args.self.now in
    push_law (by_tick g.T.Due.tick) (capacity q) c.args.entry (entries q) (Ok tt) _ (grind (arith, common_steps)) (returns-clause-after g c)
