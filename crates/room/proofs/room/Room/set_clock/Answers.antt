use Rattle.std.proofs.Common.{ℤ, refl, ap, ◌∙◌, w32}
use Rattle.std.proofs.lemmas.Int.{to_z-of_z}
use Rattle.machine.specs.Setup.{set_clock_call}
use Rattle.board.specs.Over.{world_over}
use Rattle.room.proofs.room.Room.set_clock.Goals as goal

pub returns : goal.returns
returns g c =
    let d = g.D.Disk.meaning c.args.self.now.disk in
    let b = c.args.self.now.board in
    let told = c.set_clock-answer.ensures in
    let same = to_z-of_z w32 c.args.offset c.ranges.offset in
    record {
      answer = λ log. c.raise.ensures ∙ told.answer d log ∙ ap (λ (z : ℤ). (set_clock_call (world_over d b log) c.args.host z).answer) same;
      world = λ log. told.world d log ∙ ap (λ (z : ℤ). (set_clock_call (world_over d b log) c.args.host z).world) same;
      outside = refl;
    }
