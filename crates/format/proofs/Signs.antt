-- An offset by its sign and its milliseconds.
use Rattle.std.proofs.Common.{◌≡◌, ℕ, ◌-◌, ◌/◌, ◌%◌, ◌≤◌, true, List, length, get_or, take, drop, ℤ, pos, negsuc, ◌-ℤ◌, nat_abs, decimal, sym, refl, ap, ◌∙◌, arith, w32, to_z, of_z, leb-true, SFits, Option, Some, None}
use Rattle.std.proofs.lemmas.List.{take_rest, length-append}
use Rattle.std.proofs.lemmas.Fmt.{length-decimal-le, decimal_injective}
use Rattle.format.proofs.SecondsTexts.{whole, tenths, hundredths, thousandths, rebuilt}
use Rattle.std.proofs.lemmas.Int.{ints}
use Rattle.std.proofs.lemmas.Bool.Decides.{nat_tests}
use Rattle.std.specs.Option.{ok_or}
use Rattle.disk.specs.declared.fault.Refusal.TheVariants.{NotALine}
use Rattle.format.specs.Offsets.{sign, offset_text, seconds_text, near, PrintsOffset, ReadsOffset}
use Rattle.format.proofs.Candidates.{Found}

pub small : (z : ℤ) → near z ≡ true → nat_abs z ≤ 86400000
small z h = leb-true (nat_abs z) 86400000 h

-- the sign byte, and what follows it
pub first : (text : List ℕ) (z : ℤ) → text ≡ offset_text z → get_or text 0 0 ≡ sign z
first text z e = ap (λ u. get_or u 0 0) e

pub behind : (text : List ℕ) (z : ℤ) → text ≡ offset_text z → take (length text - 1) (drop 1 text) ≡ seconds_text (nat_abs z)
behind text z e = take_rest text 1 ∙ ap (drop 1) e

-- an offset by its sign and its milliseconds
pub minus_is : (z : ℤ) (k : ℕ) → 45 ≡ sign z → nat_abs z ≡ k → k ≤ 999999999 → z ≡ to_z w32 (of_z w32 (pos 0 -ℤ to_z w32 k))
minus_is (pos n) k s e h = absurd (grind (arith, nat_tests))
minus_is (negsuc n) k s e h = omega (arith, ints)

pub plus_is : (z : ℤ) (k : ℕ) → 43 ≡ sign z → nat_abs z ≡ k → k ≤ 999999999 → z ≡ to_z w32 k
plus_is (pos n) k s e h = omega (arith, ints)
plus_is (negsuc n) k s e h = absurd (omega arith)

-- a sign, at most seven digits, a point and three digits
abs_fits : (z : ℤ) → SFits w32 z → nat_abs z ≤ 2147483648
abs_fits (pos n) h = omega (arith, ints)
abs_fits (negsuc n) h = omega (arith, ints)

pub length_offset : (z : ℤ) → SFits w32 z → length (offset_text z) ≤ 12
length_offset z h =
    let a = abs_fits z h in
    let d = length-decimal-le 7 (nat_abs z / 1000) (omega arith) (omega arith) (omega arith) in
    simp length-append (omega arith)

-- a text of seconds in range has at most five digits before its point
pub length_seconds : (z : ℤ) → near z ≡ true → length (decimal (nat_abs z / 1000)) ≤ 5
length_seconds z n = let h = small z n in length-decimal-le 5 (nat_abs z / 1000) (omega arith) (omega arith) (omega arith)

-- the text of an offset in range has at most ten bytes
pub length_offset_near : (z : ℤ) → near z ≡ true → length (offset_text z) ≤ 10
length_offset_near z n =
    let d = length_seconds z n in
    simp length-append (omega arith)

-- an offset in range fits its type
pub near_fits : (z : ℤ) → near z ≡ true → SFits w32 z
near_fits (pos n) h = let a = small (pos n) h in omega (arith, ints)
near_fits (negsuc n) h = let a = small (negsuc n) h in omega (arith, ints)

-- an offset's text tells the offset
same_millis : (m k : ℕ) → m ≤ 86400000 → k ≤ 86400000 → seconds_text m ≡ seconds_text k → m ≡ k
same_millis m k h l e =
    let seconds : m / 1000 ≡ k / 1000 = decimal_injective (m / 1000) (k / 1000) (omega arith) (omega arith) (sym (whole (seconds_text m) m refl) ∙ whole (seconds_text m) k e) in
    let x : m / 100 % 10 ≡ k / 100 % 10 = omega (arith, tenths (seconds_text m) m refl, tenths (seconds_text m) k e) in
    let y : m / 10 % 10 ≡ k / 10 % 10 = omega (arith, hundredths (seconds_text m) m refl, hundredths (seconds_text m) k e) in
    let z : m % 10 ≡ k % 10 = omega (arith, thousandths (seconds_text m) m refl, thousandths (seconds_text m) k e) in
    rebuilt m _ _ _ _ seconds x y z ∙ sym (rebuilt k _ _ _ _ refl refl refl refl)

same_signed : (y z : ℤ) → sign y ≡ sign z → nat_abs y ≡ nat_abs z → y ≡ z
same_signed (pos m) (pos n) s e = ap pos e
same_signed (pos m) (negsuc n) s e = absurd (grind (arith, nat_tests))
same_signed (negsuc m) (pos n) s e = absurd (grind (arith, nat_tests))
same_signed (negsuc m) (negsuc n) s e = let k : m ≡ n = omega arith in ap negsuc k

pub same_offset : (y z : ℤ) → near y ≡ true → near z ≡ true → offset_text y ≡ offset_text z → y ≡ z
same_offset y z h k e =
    same_signed y z (ap (λ u. get_or u 0 0) e) (same_millis (nat_abs y) (nat_abs z) (small y h) (small z k) (ap (drop 1) e))

-- what is found is what reading answers
pub reads_offset : (text : List ℕ) (r : Option ℤ) → Found (λ z. PrintsOffset z text) r → ReadsOffset text (ok_or r NotALine)
reads_offset text None none = (refl, none)
reads_offset text (Some z) found = found
