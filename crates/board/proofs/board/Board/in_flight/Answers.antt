use Rattle.std.proofs.Common.{◌≡◌, List, get_or, Some, None, Option, sym, ap, ◌∙◌, rules}
use Rattle.std.specs.List.{position}
use Rattle.std.specs.Option.{option_map}
use Rattle.format.specs.declared.lease.LeaseRecord.{LeaseRecord}
use Rattle.machine.specs.declared.types.Flight.{Flight}
use Rattle.board.specs.Verdicts.{mark_of}
use Rattle.board.proofs.Finding.{marked, no_flight, placed}
use Rattle.board.proofs.board.Board.in_flight.Goals as goal

-- there is no such write
pub returns-in_err-at : goal.returns-in_err-at
returns-in_err-at c =
    let fs = c.args.self.now.flights.items in
    let mark = mark_of c.args.name in
    let at : None ≡ position (marked mark) fs = search rules in
    let p = placed mark fs None at in
    c.from_residual.ensures ∙ sym (ap {B = Option LeaseRecord} (option_map (λ (x : Flight). x.body)) p.is)

pub returns : goal.returns
returns c =
    let fs = c.args.self.now.flights.items in
    let mark = mark_of c.args.name in
    let at : Some c.in_ok-at.at ≡ position (marked mark) fs = search rules in
    let p = placed mark fs (Some c.in_ok-at.at) at in
    ap {B = Option LeaseRecord} (λ (gs : List Flight). Some (get_or gs c.in_ok-at.at no_flight).body) c.deref-2.ensures.0 ∙ sym (ap {B = Option LeaseRecord} (option_map (λ (x : Flight). x.body)) p.is)
