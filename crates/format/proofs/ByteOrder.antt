-- Storing numbers high byte first, and reading them back, in any width.
use Rattle.std.proofs.Common.{◌≡◌, ℕ, zero, suc, ◌+◌, ◌*◌, ◌/◌, ◌%◌, ◌^◌, ◌<◌, List, [], ◌∷◌, length, sym, refl, ap, ◌∙◌, mod-eq_of_lt, mul_assoc, add_comm, arith}
use native.Mathlib.Nat.{pow-succ', add-mul-div_right, add-mul-mod_self_right}
use lib.Arith.{mod-mul, digits_div, digits_lt}
use Rattle.std.specs.Int.Digits.{AllBelowBase}
use Rattle.format.specs.Bytes.{bytes_of, number_of, ByteOrder}

some : (k : ℕ) → 0 < 256 ^ k
some zero = omega arith
some (suc k) = let p = pow-succ' 256 k in let h = some k in omega arith

width_is : (k n : ℕ) → length (bytes_of k n) ≡ k
width_is zero n = refl
width_is (suc zero) n = refl
width_is (suc (suc k)) n = ap suc (width_is (suc k) n)

-- the k bytes of a number hold what is left of it below 256 ^ k
number_left : (k n : ℕ) → number_of (bytes_of k n) ≡ n % 256 ^ k
number_left zero n = omega arith
number_left (suc zero) n = omega arith
number_left (suc (suc k)) n =
    let p = pow-succ' 256 (suc k) in
    let m = mod-mul n {m = 256} {c = 256 ^ (suc k)} (omega arith) (some (suc k)) in
    let i = number_left (suc k) n in
    rw (width_is (suc k) n, i, p) (omega arith)

-- what lies above the k bytes does not show
bytes_low : (k a n : ℕ) → bytes_of k (n + a * 256 ^ k) ≡ bytes_of k n
bytes_low zero a n = refl
bytes_low (suc zero) a n = ap (λ b. b ∷ []) (add-mul-mod_self_right n a 256)
bytes_low (suc (suc k)) a n =
    let c = 256 ^ (suc k) in
    let split : n + a * 256 ^ (suc (suc k)) ≡ n + a * 256 * c = ap (λ x. n + x) (ap (λ x. a * x) (pow-succ' 256 (suc k)) ∙ sym (mul_assoc a 256 c)) in
    let high : (n + a * 256 * c) / c % 256 ≡ n / c % 256 = ap (λ x. x % 256) (add-mul-div_right n (a * 256) (some (suc k))) ∙ add-mul-mod_self_right (n / c) a 256 in
    ap (bytes_of (suc (suc k))) split ∙ ap (λ b. b ∷ bytes_of (suc k) (n + a * 256 * c)) high ∙ ap (λ l. n / c % 256 ∷ l) (bytes_low (suc k) (a * 256) n)

number_fits : (bytes : List ℕ) → AllBelowBase 256 bytes → number_of bytes < 256 ^ length bytes
number_fits [] u = omega arith
number_fits (b ∷ rest) u =
    let p = pow-succ' 256 (length rest) in
    rw p (digits_lt {q = b} {m = 256} {r = number_of rest} {c = 256 ^ length rest} u.0 (number_fits rest u.1))

bytes_are : (bytes : List ℕ) → AllBelowBase 256 bytes → bytes_of (length bytes) (number_of bytes) ≡ bytes
bytes_are [] u = refl
bytes_are (b ∷ []) u =
    let e : b * 256 ^ 0 + 0 ≡ b = omega arith in
    ap (λ x. x ∷ []) (ap (λ x. x % 256) e ∙ mod-eq_of_lt u.0)
bytes_are (b ∷ d ∷ rest) u =
    let k = length rest in
    let c = 256 ^ (suc k) in
    let r = number_of (d ∷ rest) in
    let first : (b * c + r) / c % 256 ≡ b = ap (λ x. x % 256) (digits_div b {m = c} {r = r} (number_fits (d ∷ rest) u.1)) ∙ mod-eq_of_lt u.0 in
    ap (λ x. x ∷ bytes_of (suc k) (b * c + r)) first
    ∙ ap (λ l. b ∷ l) (ap (bytes_of (suc k)) (add_comm (b * c) r) ∙ bytes_low (suc k) b r ∙ bytes_are (d ∷ rest) u.1)

pub byte_order : ByteOrder
byte_order =
    record {
      number_back = λ k n h. number_left k n ∙ mod-eq_of_lt h;
      bytes_back = bytes_are;
      width = width_is;
    }
