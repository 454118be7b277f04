use Rattle.std.proofs.Common.{length}
use Rattle.queue.specs.Holdings.{entries}
use Rattle.takeover.proofs.step.Stage.end_leases.Given as goal

-- each turn takes a deadline out of the queue
abbrev pub decreases-loop-deadline : goal.decreases-loop-deadline
decreases-loop-deadline g l = length (entries l.self.deadlines)
