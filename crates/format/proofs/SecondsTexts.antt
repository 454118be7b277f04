-- What stands where in a text of seconds, a point and three digits.
use Rattle.std.proofs.Common.{◌≡◌, ℕ, ◌+◌, ◌-◌, ◌*◌, ◌/◌, ◌%◌, ◌≤◌, List, [], ◌∷◌, ◌++◌, length, get_or, take, decimal, refl, ap, ◌∙◌, arith}
use native.Mathlib.Nat.{div-div-eq-div-mul}
use Rattle.std.proofs.lemmas.List.{length-append, take_at, get_or-append_right}
use Rattle.format.specs.Offsets.{seconds_text}

-- a text that ends in four known bytes
module _ (text ds : List ℕ) (x y z : ℕ) (e : text ≡ ds ++ 46 ∷ x ∷ y ∷ z ∷ []) where
  pub long : length text ≡ length ds + 4
  long = ap length e ∙ length-append ds (46 ∷ x ∷ y ∷ z ∷ [])

  pub front : (n : ℕ) → n + 4 ≡ length text → take n text ≡ ds
  front n h = let l = long in ap (take n) e ∙ take_at ds (46 ∷ x ∷ y ∷ z ∷ []) n (omega arith)

  pub back : (i j : ℕ) → i ≡ length ds + j → get_or text i 0 ≡ get_or (46 ∷ x ∷ y ∷ z ∷ []) j 0
  back i j h =
      let k : i - length ds ≡ j = omega arith in
      ap (λ u. get_or u i 0) e
      ∙ (get_or-append_right ds (46 ∷ x ∷ y ∷ z ∷ []) (length ds) i 0 refl (omega arith)
      ∙ ap (λ u. get_or (46 ∷ x ∷ y ∷ z ∷ []) u 0) k)

-- what stands where in a text of seconds
module _ (text : List ℕ) (m : ℕ) (e : text ≡ seconds_text m) where
  pub four : 4 ≤ length text
  four = let l = long text (decimal (m / 1000)) _ _ _ e in omega arith

  pub whole : take (length text - 4) text ≡ decimal (m / 1000)
  whole = front text (decimal (m / 1000)) _ _ _ e (length text - 4) (let f = four in omega arith)

  pub tenths : get_or text (length text - 3) 0 ≡ 48 + m / 100 % 10
  tenths = back text (decimal (m / 1000)) _ _ _ e (length text - 3) 1 (let l = long text (decimal (m / 1000)) _ _ _ e in omega arith)

  pub hundredths : get_or text (length text - 2) 0 ≡ 48 + m / 10 % 10
  hundredths = back text (decimal (m / 1000)) _ _ _ e (length text - 2) 2 (let l = long text (decimal (m / 1000)) _ _ _ e in omega arith)

  pub thousandths : get_or text (length text - 1) 0 ≡ 48 + m % 10
  thousandths = back text (decimal (m / 1000)) _ _ _ e (length text - 1) 3 (let l = long text (decimal (m / 1000)) _ _ _ e in omega arith)

-- a number of milliseconds by its seconds and three digits
pub rebuilt : (m s a b d : ℕ) → m / 1000 ≡ s → m / 100 % 10 ≡ a → m / 10 % 10 ≡ b → m % 10 ≡ d → m ≡ s * 1000 + a * 100 + b * 10 + d
rebuilt m s a b d p q r t =
    let x : m / 10 / 10 ≡ m / 100 = div-div-eq-div-mul m 10 10 in
    let y : m / 100 / 10 ≡ m / 1000 = div-div-eq-div-mul m 100 10 in
    omega arith
