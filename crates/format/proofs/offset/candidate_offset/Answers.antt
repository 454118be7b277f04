use Rattle.std.proofs.Common.{◌≡◌, nat_abs, arith, eqb-true}
use Rattle.format.specs.Offsets.{sign}
use Rattle.format.proofs.Signs.{small, first, behind, minus_is, plus_is}
use Rattle.format.proofs.offset.candidate_offset.Goals as goal

pub returns-in_err-millis-in-45 : goal.returns-in_err-millis-in-45
returns-in_err-millis-in-45 c = rw c.from_residual.ensures (λ z p. c.in_err-millis-in-45.ensures (nat_abs z) (small z p.0) (behind c.args.text.now z p.1))

pub returns-in_err-millis-in-43 : goal.returns-in_err-millis-in-43
returns-in_err-millis-in-43 c = rw c.from_residual-in_err-millis-in-43.ensures (λ z p. c.in_err-millis-in-43.ensures (nat_abs z) (small z p.0) (behind c.args.text.now z p.1))

pub returns-in_ok-millis-in-45 : goal.returns-in_ok-millis-in-45
returns-in_ok-millis-in-45 c z p =
    let r = c.in_ok-millis-in-45.ensures in
    let f = first c.args.text.now z p.1 in
    let s : 45 ≡ sign z = omega (arith, eqb-true) in
    minus_is z _ s (r.1 (nat_abs z) (small z p.0) (behind c.args.text.now z p.1)) r.0

pub returns-in_ok-millis-in-43 : goal.returns-in_ok-millis-in-43
returns-in_ok-millis-in-43 c z p =
    let r = c.in_ok-millis-in-43.ensures in
    let f = first c.args.text.now z p.1 in
    let s : 43 ≡ sign z = omega (arith, eqb-true) in
    plus_is z _ s (r.1 (nat_abs z) (small z p.0) (behind c.args.text.now z p.1)) r.0
