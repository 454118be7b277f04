-- Try, as its tests and what follows from them.
use Rattle.std.proofs.Common.{◌≡◌, ℕ, List}
use Rattle.machine.specs.Room.{World}
use Rattle.machine.specs.Steps.{reading_block}
use Rattle.machine.specs.Claiming.{tried, try_call, try_tests}
use Rattle.board.specs.Verdicts.{proceed, verdict}
use Rattle.board.proofs.Verdicts.{unless_proceeds}

pub try_joined : (w : World) (h r : ℕ) (area : List ℕ) → try_call w h r area ≡ proceed w (verdict (try_tests w.room h r area)) (λ _. reading_block w r (tried h r))
unfolding try_call
try_joined w h r area = unless_proceeds w (try_tests w.room h r area) (reading_block w r (tried h r))
