-- Clock offsets as text: a sign, whole seconds, a point, three digits.
use Rattle.std.specs.Prelude.{◌≡◌, ℕ, ◌+◌, ◌/◌, ◌%◌, Bool, true, cond, List, [], ◌∷◌, ◌++◌, ℤ, pos, Ok, Err, decimal, Result, int_lt, nat_le, unsigned_abs}
use Rattle.disk.specs.declared.fault.Refusal.{Refusal}
use Rattle.disk.specs.declared.fault.Refusal.TheVariants.{NotALine}

-- a clock is at most a day off, either way
abbrev pub near : ℤ → Bool
near offset = nat_le (unsigned_abs offset) 86400000

-- a plus from zero up, else a minus
abbrev pub sign : ℤ → ℕ
sign offset = cond (int_lt offset (pos 0)) 45 43

-- milliseconds as whole seconds, a point and three digits
abbrev pub seconds_text : ℕ → List ℕ
seconds_text m = decimal (m / 1000) ++ 46 ∷ (48 + m / 100 % 10) ∷ (48 + m / 10 % 10) ∷ (48 + m % 10) ∷ []

abbrev pub offset_text : ℤ → List ℕ
offset_text offset = sign offset ∷ seconds_text (unsigned_abs offset)

-- the text is what printing this offset gives
abbrev pub PrintsOffset : ℤ → List ℕ → Type 0
PrintsOffset offset text = (near offset ≡ true) × (text ≡ offset_text offset)

-- reading answers the one offset that prints so, and refuses a text that none does
abbrev pub ReadsOffset : List ℕ → Result ℤ Refusal → Type 0
ReadsOffset text (Ok offset) = PrintsOffset offset text × ((other : ℤ) → PrintsOffset other text → other ≡ offset)
ReadsOffset text (Err refusal) = (refusal ≡ NotALine) × ((offset : ℤ) → PrintsOffset offset text → ⊥)
