use Rattle.std.proofs.Common.{◌∷◌, [], ◌++◌, sym, arith, rules, of_calls, length-append}
use Rattle.std.proofs.lemmas.Fn.{FoldsTo-push}
use Rattle.disk.specs.Tries.{FailedCall}
use Rattle.disk.proofs.retry.attempt.Goals as goal

pub loop-again-preserved : goal.loop-again-preserved
loop-again-preserved g c =
    let i = c.loop-again.invariant.1 in
    let call : goal.F-step g c.loop-again.access c.access.result c.access.new.self = search (rules, of_calls) in (
      search (rules, of_calls),
      (
        i.0 ++ (c.access.result ∷ []),
        FoldsTo-push (FailedCall (goal.F-step g)) _ i.0 _ c.access.result _ i.1 (call, sym c.if-is_ok.ensures.value),
        omega (arith, length-append i.0 (c.access.result ∷ [])),
      ),
    )
