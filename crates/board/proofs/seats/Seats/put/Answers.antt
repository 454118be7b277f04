use Rattle.board.proofs.Kept.{timely_set}
use Rattle.board.proofs.seats.Seats.put.Goals as goal

pub invariant_of-self : goal.invariant_of-self
invariant_of-self c =
    let s = c.args.self.now in
    record { timely = timely_set s.rows c.args.turn.host.number c.args.turn.resource c.args.seat c.requires s.timely }
