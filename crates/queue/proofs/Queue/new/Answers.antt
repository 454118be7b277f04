-- The law over runs, of the order by ticks.
use Rattle.queue.specs.Schedule.{by_tick}
use Rattle.queue.proofs.Order.{by_tick_lawful}
use Rattle.queue.proofs.WholeRuns.{run_law}
use Rattle.queue.proofs.Queue.new.Goals as goal

pub returns-clause-runs : goal.returns-clause-runs
returns-clause-runs g c = run_law (by_tick g.T.Due.tick) _ (by_tick_lawful g.T.Due.tick)
