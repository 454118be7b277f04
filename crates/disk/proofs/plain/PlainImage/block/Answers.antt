use Rattle.std.proofs.Common.{rules}
use Rattle.std.proofs.Math.Nat.{add-sub_cancel_left}
use Rattle.disk.proofs.plain.PlainImage.block.Goals as goal

pub returns : goal.returns
returns c = search (rules, add-sub_cancel_left)
