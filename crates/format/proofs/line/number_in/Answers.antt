use Rattle.std.proofs.Common.{rules}
use Rattle.format.proofs.Fields.{number_is, dash_is}
use Rattle.format.proofs.line.number_in.Goals as goal

pub returns-then-eq : goal.returns-then-eq
returns-then-eq c = dash_is c.args.field.now (search rules)

pub returns : goal.returns
returns c = number_is c.args.field.now c.read_decimal.result (λ e. search rules) c.read_decimal.ensures
