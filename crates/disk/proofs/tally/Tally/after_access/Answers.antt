use Rattle.std.proofs.Common.{sym, refl, rules}
use Rattle.disk.proofs.TiredBlocks.{failing_leaves, passing_leaves}
use Rattle.disk.proofs.tally.Tally.after_access.Goals as goal

pub returns-then-is_exhausted : goal.returns-then-is_exhausted
returns-then-is_exhausted c = failing_leaves c.args.self _ (sym c.if-is_exhausted.ensures) refl refl

pub returns : goal.returns
returns c = passing_leaves c.args.self _ (sym c.if-is_exhausted.ensures) (search rules) refl
