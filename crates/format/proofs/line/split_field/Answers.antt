use Rattle.std.proofs.Common.{◌≡◌, ◌∷◌, ℕ, ◌+◌, length, take, drop, sym, ap, ◌∙◌, arith}
use Rattle.std.proofs.lemmas.List.{take_rest, take_at}
use Rattle.format.proofs.Fields.{position_is, rest_at}
use Rattle.format.proofs.line.split_field.Goals as goal

pub returns-in_err-end : goal.returns-in_err-end
returns-in_err-end c =
    let none = c.in_err-end.ensures in
    rw c.from_residual.ensures (λ x y free e. let some = position_is c.args.text.now x y free e in absurd (let z : ◌≡◌ {A = ℕ} 0 1 = cc in omega arith))

pub returns : goal.returns
returns c x y free e =
    let text = c.args.text.now in
    let end = c.in_ok-end.end in
    let some = c.in_ok-end.ensures in
    let here = position_is text x y free e in
    let n : end ≡ length x = cc in
    (ap (take end) e ∙ take_at x (32 ∷ y) end (sym n), take_rest text (end + 1) ∙ ap (drop (end + 1)) e ∙ rest_at x y end n)
