use Rattle.std.proofs.Common.{◌≡◌, ◌/◌, ◌%◌, ◌^◌, ◌<◌, sym, ◌∙◌, arith, ltb-true}
use Rattle.std.proofs.lemmas.Fmt.{decimal_injective}
use Rattle.format.proofs.SecondsTexts.{four, whole, tenths, hundredths, thousandths, rebuilt}
use Rattle.format.proofs.offset.candidate_millis.Goals as goal

pub returns-in_default : goal.returns-in_default
returns-in_default c m h e = let l = four c.args.text.now m e in omega (arith, ltb-true)

pub returns-in_err-seconds : goal.returns-in_err-seconds
returns-in_err-seconds c = rw c.from_residual.ensures (λ m h e. c.in_err-seconds.ensures (m / 1000) (omega arith) (whole c.args.text.now m e))

pub returns-then-seconds : goal.returns-then-seconds
returns-then-seconds c m h e =
    let s : c.in_ok-seconds.seconds < 10 ^ 9 = c.in_ok-seconds.ensures.0 in
    let q : m / 1000 ≡ c.in_ok-seconds.seconds = decimal_injective (m / 1000) c.in_ok-seconds.seconds (omega arith) (omega arith) (sym (whole c.args.text.now m e) ∙ c.in_ok-seconds.ensures.1) in
    omega arith

pub returns-in_err-digit : goal.returns-in_err-digit
returns-in_err-digit c = rw c.from_residual-in_err-digit.ensures (λ m h e. c.in_err-digit.ensures (m / 100 % 10) (omega arith) (tenths c.args.text.now m e))

pub returns-in_err-digit-2 : goal.returns-in_err-digit-2
returns-in_err-digit-2 c = rw c.from_residual-in_err-digit-2.ensures (λ m h e. c.in_err-digit-2.ensures (m / 10 % 10) (omega arith) (hundredths c.args.text.now m e))

pub returns-in_err-digit-3 : goal.returns-in_err-digit-3
returns-in_err-digit-3 c = rw c.from_residual-in_err-digit-3.ensures (λ m h e. c.in_err-digit-3.ensures (m % 10) (omega arith) (thousandths c.args.text.now m e))

pub returns : goal.returns
returns c =
    let a = c.in_ok-digit.ensures in
    let b = c.in_ok-digit-2.ensures in
    let d = c.in_ok-digit-3.ensures in (
      omega arith,
      λ m h e.
          let x = tenths c.args.text.now m e in
          let y = hundredths c.args.text.now m e in
          let z = thousandths c.args.text.now m e in
          let q : m / 1000 ≡ c.in_ok-seconds.seconds = decimal_injective (m / 1000) c.in_ok-seconds.seconds (omega arith) (omega arith) (sym (whole c.args.text.now m e) ∙ c.in_ok-seconds.ensures.1) in
          rebuilt m _ _ _ _ q (omega arith) (omega arith) (omega arith),
    )
