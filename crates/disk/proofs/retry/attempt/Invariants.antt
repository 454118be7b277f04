use Rattle.std.proofs.Common.{◌≡◌, ◌+◌, List, length, Result}
use Rattle.std.specs.List.{FoldsTo}
use Rattle.disk.specs.declared.fault.Fault.{Fault}
use Rattle.disk.specs.Tries.{FailedCall}
use Rattle.disk.proofs.retry.attempt.Given as goal

-- every call so far has failed
abbrev pub invariant-loop-again : goal.invariant-loop-again
invariant-loop-again g l =
    goal.F-IsAlwaysCallable g l.access
    × ((answers : List (Result (Unit {0}) Fault)) × FoldsTo (FailedCall (goal.F-step g)) l.initial.access answers l.access × (length answers + 1 ≡ l._again))
