use Rattle.std.proofs.Common.{◌≡◌, ◌∷◌, Some, Err, rules}
use Rattle.disk.specs.Model.{DiskModel}
use Rattle.machine.specs.Room.{seat_at}
use Rattle.machine.specs.Outcomes.{log_test, refused, standing}
use Rattle.machine.specs.Seats.{Hold, hold}
use Rattle.machine.specs.Holding.{release_call}
use Rattle.board.specs.Over.{alone, alone_with, world_over}
use Rattle.board.specs.Verdicts.{renew_tests, verdict}
use Rattle.board.proofs.Verdicts.{second_refuses}
use Rattle.board.proofs.board.Board.release.Goals as goal

-- the lease has run out, or no write may be issued
pub returns-in_err-mark : goal.returns-in_err-mark
returns-in_err-mark c =
    let b = c.args.self.now in
    let log = c.args.log.now in
    let h = c.args.host in
    let r = c.args.resource in
    let x : Hold = record { term = c.in-Held.term; until = c.in-Held.until.0; pending = c.in-Held.pending } in
    let cause = c.in_err-mark.field-0.0 in
    let held : hold (seat_at (alone b) h r) ≡ Some x = search rules in
    let tests : Err cause ≡ verdict (log_test (alone_with b log) ∷ renew_tests (alone b) h x.until) = search rules in
    let call : (d : DiskModel) → release_call (world_over d b log) h r ≡ refused (world_over d b log) cause 0 =
    λ d. let w = world_over d b log in second_refuses w (standing w.room h r) (hold (seat_at w.room h r)) _ (λ (y : Hold). log_test w ∷ renew_tests w.room h y.until) _ x cause c.in_ok-turn.ensures.answer held tests in
    record {
      answer = λ d. let e = call d in search rules;
      world = λ d. let e = call d in search rules;
    }
