use Rattle.std.proofs.Common.{◌≡◌, List, Some, None, sym, ap, ◌∙◌, rules}
use Rattle.std.specs.List.{position}
use Rattle.machine.specs.declared.types.Flight.{Flight}
use Rattle.machine.specs.Room.{with_flights}
use Rattle.board.specs.Over.{over}
use Rattle.board.specs.Verdicts.{mark_of}
use Rattle.board.proofs.Finding.{marked, placed}
use Rattle.board.proofs.board.Board.take_out.Goals as goal

pub returns-in-Some : goal.returns-in-Some
returns-in-Some c d =
    let b = c.args.self.now in
    let mark = mark_of c.args.name in
    let at : Some c.in-Some.at ≡ position (marked mark) b.flights.items = search rules in
    let p = placed mark b.flights.items (Some c.in-Some.at) at in
    ap (λ (fs : List Flight). with_flights (over d b) fs) (c.remove.ensures.items ∙ sym p.rest)

-- there is no such write
pub returns-in_default : goal.returns-in_default
returns-in_default c d =
    let b = c.args.self.now in
    let mark = mark_of c.args.name in
    let at : None ≡ position (marked mark) b.flights.items = search rules in
    let p = placed mark b.flights.items None at in
    ap (λ (fs : List Flight). with_flights (over d b) fs) (sym p.rest)
