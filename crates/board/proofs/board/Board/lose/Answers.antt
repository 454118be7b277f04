use Rattle.std.proofs.Common.{rules}
use Rattle.board.proofs.board.Board.lose.Goals as goal

pub returns-clause-world : goal.returns-clause-world
returns-clause-world c d log = let t = c.take_out.ensures d in search rules
