use Rattle.std.proofs.Common.{length, sym, ap, ◌∙◌, rules}
use Rattle.machine.specs.Claiming.{checked}
use Rattle.board.specs.Judging.{claim_of, told}
use Rattle.board.proofs.Joined.{check_joined}
use Rattle.room.specs.Rooms.{as_world}
use Rattle.room.proofs.Judged.{judged}
use Rattle.room.proofs.room.Room.check.Goals as goal

pub returns : goal.returns
returns g c =
    let meaning = g.D.Disk.meaning in
    let a = c.args in
    let tested = c.claim_to_check-tested.ensures in
    let found = c.in_ok-claim.ensures.passed in
    let is = judged checked (meaning a.self.now.disk) a.self.now.board a.log.now a.host a.resource (check_joined (as_world meaning a.self.now a.log.now) a.host a.resource a.area.now)
    (ap (told claim_of) (sym found.0) ∙ tested.answer) (rw found.0 at tested.whose) (rw found.0 at tested.place)
    (ap length found.1 ∙ rw found.0 at tested.long) c.in_ok-seen.ensures.answer c.read_record.ensures.disk in
    let ends = c.judge_claim-answer.ensures in
    record {
      answer = c.raise.ensures ∙ ends.answer (meaning c.read_record.new.disk) ∙ sym (ap (λ z. z.answer) is);
      world = ends.world (meaning c.read_record.new.disk) ∙ sym (ap (λ z. z.world) is);
      area = search rules;
      outside = search rules;
    }
