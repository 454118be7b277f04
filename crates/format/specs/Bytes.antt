-- Numbers stored high byte first, in any width.
use Rattle.std.specs.Prelude.{◌≡◌, ℕ, zero, suc, ◌+◌, ◌*◌, ◌/◌, ◌%◌, ◌^◌, ◌<◌, List, [], ◌∷◌, length}
use Rattle.std.specs.Int.Digits.{AllBelowBase}

-- the k bytes of a number
abbrev pub bytes_of : ℕ → ℕ → List ℕ
bytes_of zero n = []
bytes_of (suc zero) n = n % 256 ∷ []
bytes_of (suc (suc k)) n = n / 256 ^ (suc k) % 256 ∷ bytes_of (suc k) n

-- the number that bytes store
abbrev pub number_of : List ℕ → ℕ
number_of [] = 0
number_of (b ∷ rest) = b * 256 ^ length rest + number_of rest

-- storing a number that fits and reading it back, and reading bytes and storing their number, change nothing
pub record ByteOrder : Type 0 where
  pub number_back : (k n : ℕ) → n < 256 ^ k → number_of (bytes_of k n) ≡ n
  pub bytes_back : (bytes : List ℕ) → AllBelowBase 256 bytes → bytes_of (length bytes) (number_of bytes) ≡ bytes
  pub width : (k n : ℕ) → length (bytes_of k n) ≡ k
