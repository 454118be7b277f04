use Rattle.std.proofs.Common.{◌≡◌, ℕ, zero, suc, ◌+◌, ◌*◌, ◌%◌, List, [], ◌∷◌, length, get_or, refl, arith}
use Rattle.std.specs.Simd.{first_chunks}
use Rattle.format.specs.Blocks.{sums}

-- s and t after these words of two bytes
abbrev pub after : List (List ℕ) → ℕ → ℕ → ℕ × ℕ
after [] s t = (s, t)
after (word ∷ rest) s t =
    after rest ((s + (get_or word 0 0 * 256 + get_or word 1 0)) % 65535) ((t + (s + (get_or word 0 0 * 256 + get_or word 1 0)) % 65535) % 65535)

pub by_words : (k : ℕ) (xs : List ℕ) (s t : ℕ) → length xs ≡ k + k → after (first_chunks 2 k xs) s t ≡ sums xs s t
by_words zero [] s t h = refl
by_words zero (a ∷ xs) s t h = absurd (omega arith)
by_words (suc k) [] s t h = absurd (omega arith)
by_words (suc k) (a ∷ []) s t h = absurd (omega arith)
by_words (suc k) (a ∷ b ∷ xs) s t h = by_words k xs _ _ (omega arith)
