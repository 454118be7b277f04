use Rattle.std.proofs.Common.{◌+◌, sym, rules, ◌∙◌}
use Rattle.arrayvec.proofs.ArrayVecLemmas.{filter-from_retain}
use Rattle.board.proofs.Youth.{young, younger_kept}
use Rattle.board.proofs.board.Board.pass.Goals as goal

pub returns : goal.returns
returns c =
    let b = c.args.self.now in
    let kept = filter-from_retain _ (young b.settings.delay (b.tick.0 + 1)) _ (λ x said f y called. search rules) _ _ c.retain.ensures.filtered in
    let e = kept ∙ sym (younger_kept b.settings.delay (b.tick.0 + 1) b.flights.items) in
    search rules
