use Rattle.board.proofs.Kept.{timely_row}
use Rattle.board.proofs.seats.Seats.leave.Goals as goal

pub invariant_of-self : goal.invariant_of-self
invariant_of-self c = record { timely = timely_row c.args.self.now.rows c.args.host.number c.args.self.now.timely }
