use Rattle.std.proofs.Common.{◌≡◌, List, Some, Err, rules}
use Rattle.disk.specs.Model.{DiskModel}
use Rattle.format.specs.declared.events.LogEntry.{LogEntry}
use Rattle.machine.specs.Room.{seat_at}
use Rattle.machine.specs.Outcomes.{refused, standing}
use Rattle.machine.specs.Seats.{Hold, hold}
use Rattle.machine.specs.Holding.{renew_call}
use Rattle.board.specs.Over.{alone, over, world_over}
use Rattle.board.specs.Verdicts.{renew_tests, verdict}
use Rattle.board.proofs.Verdicts.{second_refuses}
use Rattle.board.proofs.board.Board.renew.Goals as goal

-- the lease has run out, or no write may be issued
pub returns-in_err-mark : goal.returns-in_err-mark
returns-in_err-mark c =
    let b = c.args.self.now in
    let h = c.args.host in
    let r = c.args.resource in
    let x : Hold = record { term = c.in-Held.term; until = c.in-Held.until.0; pending = c.in-Held.pending } in
    let cause = c.in_err-mark.field-0.0 in
    let held : hold (seat_at (alone b) h r) ≡ Some x = search rules in
    let tests : Err cause ≡ verdict (renew_tests (alone b) h x.until) = search rules in
    let call : (d : DiskModel) (log : List LogEntry) → renew_call (world_over d b log) h r ≡ refused (world_over d b log) cause 0 =
    λ d log. let m = over d b in second_refuses (world_over d b log) (standing m h r) (hold (seat_at m h r)) _ (λ (y : Hold). renew_tests m h y.until) _ x cause c.in_ok-turn.ensures.answer held tests in
    record {
      answer = λ d log. let e = call d log in search rules;
      world = λ d log. let e = call d log in search rules;
    }
