-- Texts in lent buffers.
use Rattle.std.specs.Prelude.{◌≡◌, ℕ, ◌≤◌, Bool, cond, List, [], ◌∷◌, ◌++◌, length, drop, replicate, Ok, Err, decimal, Result, ◌≢◌, nat_le}
use Rattle.std.specs.List.{AllByRecursion}
use Rattle.disk.specs.declared.fault.Refusal.{Refusal}
use Rattle.disk.specs.declared.fault.Refusal.TheVariants.{BadValue, BufferShort}
use Rattle.format.specs.declared.buffer.LineBuffer.{LineBuffer}

-- the text that a line buffer holds
abbrev pub held : LineBuffer → List ℕ
held l = l.bytes.items

-- a piece comes behind the text so far, if a line buffer has room for both
abbrev pub Adds : LineBuffer → List ℕ → LineBuffer → Type 0
Adds old piece new = length (held old ++ piece) ≤ 64 → held new ≡ held old ++ piece

-- a field, a space, and what follows
abbrev pub spaced : List ℕ → List ℕ → List ℕ
spaced field rest = field ++ 32 ∷ rest

-- a number, or a minus where it does not apply
abbrev pub number_or_dash : Bool → ℕ → List ℕ
number_or_dash applies n = cond applies (decimal n) (45 ∷ [])

-- the answer of printing a text that is in range, or not, into a buffer of a size
abbrev pub print_answer : Bool → List ℕ → ℕ → Result ℕ Refusal
print_answer in_range text size = cond in_range (cond (nat_le (length text) size) (Ok (length text)) (Err BufferShort)) (Err BadValue)

-- the buffer afterwards: the text in front of what stood behind it, or zeros
abbrev pub print_after : Result ℕ Refusal → List ℕ → List ℕ → List ℕ
print_after (Ok _) text buffer = text ++ drop (length text) buffer
print_after (Err _) text buffer = replicate (length buffer) 0

-- no byte is a space
abbrev pub Spaceless : List ℕ → Type 0
Spaceless text = AllByRecursion (λ b. b ≢ 32) text
