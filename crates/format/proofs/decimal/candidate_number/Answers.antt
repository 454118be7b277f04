use Rattle.std.proofs.Common.{sym, rules}
use Rattle.format.proofs.Numbers.{not_utf8, read_so}
use Rattle.format.proofs.decimal.candidate_number.Goals as goal

pub returns-in_err-ok : goal.returns-in_err-ok
returns-in_err-ok c =
    rw c.from_residual.ensures (not_utf8 c.args.text.now _ _ c.from_utf8.result c.from_utf8.ensures.cases (sym c.in_err-ok.ensures.value))

pub returns : goal.returns
returns c = rw c.ok-2.ensures.value (read_so c.args.text.now c.parse.result (search rules))
