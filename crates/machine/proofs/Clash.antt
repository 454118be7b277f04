-- What cannot be.
use Rattle.std.proofs.Common.{◌≡◌, ℕ, arith}

-- `clash (cc)` where the equations at hand join two different constructors
pub clash : {A : Type 0} → ◌≡◌ {A = ℕ} 0 1 → A
clash e = absurd (omega arith)
