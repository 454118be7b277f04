-- One step of formatting.
use Rattle.std.proofs.Common.{◌≡◌, ℕ, suc, ◌+◌, ◌-◌, ◌<◌, arith}
use Rattle.format.specs.Blocks.{block_of, founding}
use Rattle.machine.specs.Room.{World}
use Rattle.machine.specs.Steps.{writing_block}
use Rattle.machine.specs.Setup.{formatting}

-- the founding record of r is written next
pub format_next : (end r : ℕ) (w : World) → r < end → formatting w r (end - r) ≡ writing_block w r (block_of (founding r)) (λ v. formatting v (r + 1) (end - (r + 1)))
format_next end r w h = let one_left : end - r ≡ suc (end - (r + 1)) = omega arith in rw one_left
