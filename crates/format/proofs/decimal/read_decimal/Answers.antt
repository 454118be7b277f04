use Rattle.std.proofs.Common.{rules, arith}
use Rattle.format.proofs.Candidates.{checked}
use Rattle.format.proofs.Numbers.{Writes, writes, too_long, found_number}
use Rattle.format.proofs.decimal.read_decimal.Goals as goal

pub returns-then-text-gt-MOST_DIGITS : goal.returns-then-text-gt-MOST_DIGITS
returns-then-text-gt-MOST_DIGITS c = too_long c.args.text.now (λ short. omega arith)

pub returns : goal.returns
returns c =
    let text = c.args.text.now in
    let short = c.if-text-gt-MOST_DIGITS.false in
    found_number text c.filter.result (checked (Writes text) c.candidate_number.result c.filter.result _ c.candidate_number.ensures c.filter.ensures (λ y b p. let w = writes text short y in search rules))
