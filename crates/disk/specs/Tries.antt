-- A call that is made again while it fails.
use Rattle.std.specs.Prelude.{◌≡◌, ℕ, ◌+◌, ◌<◌, false, List, length, is_ok, Result}
use Rattle.std.specs.List.{FoldsTo}

-- a call that fails, where `step` tells what calls answer and how they change the state
abbrev pub FailedCall : {F R E : Type 0} → (F → Result R E → F → Type 0) → F → Result R E → F → Type 0
FailedCall step p answer q = step p answer q × (is_ok answer ≡ false)

-- some calls that fail, and a last one, which succeeds or is the last of the tries
pub record Tried {F R E : Type 0} (step : F → Result R E → F → Type 0) (tries : ℕ) (start : F) (answer : Result R E) (left : F) : Type 0 where
  pub answers : List (Result R E)
  pub before : F
  pub failed : FoldsTo (FailedCall step) start answers before
  pub last : step before answer left
  pub few : length answers < tries
  pub spent : is_ok answer ≡ false → length answers + 1 ≡ tries
