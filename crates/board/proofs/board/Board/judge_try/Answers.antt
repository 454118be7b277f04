use Rattle.std.proofs.Common.{List, rules}
use Rattle.disk.specs.Model.{DiskModel}
use Rattle.format.specs.declared.events.LogEntry.{LogEntry}
use Rattle.machine.specs.declared.types.Tried.{Tried}
use Rattle.machine.specs.Claiming.{claiming, still_tests}
use Rattle.board.specs.Over.{world_over}
use Rattle.board.proofs.Verdicts.{unless_passes, unless_refuses}
use Rattle.board.proofs.board.Board.judge_try.Goals as goal

-- the record has not stood still for a lease
pub returns-in_err-still : goal.returns-in_err-still
returns-in_err-still c =
    let h = c.args.turn.host.number in
    let e = λ (d : DiskModel) (log : List LogEntry).
    let w = world_over d c.args.self.now log in
    unless_refuses {A = Tried} w (still_tests w.room h c.in-Watching.since.0) (claiming w h c.args.turn.resource c.args.seen) c.in_err-still.field-0.0 c.in_err-still.ensures in
    record {
      answer = λ d log. let r = e d log in search rules;
      world = λ d log. let r = e d log in search rules;
    }

-- it has
pub returns : goal.returns
returns c =
    let h = c.args.turn.host.number in
    let p = λ (d : DiskModel) (log : List LogEntry).
    let w = world_over d c.args.self.now log in
    unless_passes {A = Tried} w (still_tests w.room h c.in-Watching.since.0) (claiming w h c.args.turn.resource c.args.seen) c.in_ok-still.ensures in
    record {
      answer = λ d log. let e = p d log in let r = c.claim-2.ensures.answer d log in search rules;
      world = λ d log. let e = p d log in let r = c.claim-2.ensures.world d log in search rules;
    }
