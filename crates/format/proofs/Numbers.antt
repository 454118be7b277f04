-- Reading numbers with the library.
use Rattle.std.proofs.Common.{◌≡◌, ℕ, ◌^◌, ◌<◌, ◌≤◌, List, length, take, Ok, Err, Some, None, Option, Result, decimal, ap, ◌∙◌, sym, arith, MatchOption, subst}
use Rattle.std.specs.Result.{result_ok, MatchResult}
use Rattle.std.specs.List.{slice_index}
use Rattle.std.specs.Str.{IsUtf8}
use Rattle.format.proofs.Candidates.{Candidate, Found}
use Rattle.std.specs.Str.Parse.{ParsesUnsigned, AllDigits, digits_value, without_leading_plus}
use Rattle.std.proofs.lemmas.List.{length-take}
use Rattle.std.proofs.lemmas.Str.Parse.{IsNumeralModel, numerals_by_value, tells_digits, digits_value_short, digit_at, without_leading_plus_none}
use Rattle.std.proofs.lemmas.Fmt.{decimal_is_IsNumeral, decimal-digits_value, decimal_nonempty, length-decimal-le, digits_decimal, digits_value-decimal, IsAscii-decimal}
use Rattle.std.proofs.lemmas.Str.{IsUtf8-from_ascii}

-- the words of reading, as they stand
own : IsNumeralModel (AllDigits 10) (digits_value 10)
own = numerals_by_value (AllDigits 10) tells_digits

-- digits before the last of nine at most write a number below 10 ^ 8
pub small : (ds : List ℕ) (i : ℕ) → length ds ≤ 9 → i < length ds → AllDigits 10 (take i ds) → digits_value 10 (take i ds) < 10 ^ 8
small ds i short lt d = digits_value_short own (take i ds) 8 d (simp length-take (omega arith))

-- some digits, at most nine, with no leading zero
abbrev pub Plain : List ℕ → Type 0
Plain digits = (0 < length digits) × (length digits ≤ 9) × (slice_index digits 0 ≡ 48 → length digits ≡ 1)

-- plain digits are what a number writes
pub decimal_plain : (ds : List ℕ) → Plain ds → AllDigits 10 ds → (digits_value 10 ds < 10 ^ 9) × (ds ≡ decimal (digits_value 10 ds))
decimal_plain ds p d =
    let s : digits_value 10 ds < 10 ^ 9 = digits_value_short own ds 9 d p.1 in
    (s, sym (decimal-digits_value own ds d p.0 p.2 (omega arith)))

-- a decimal begins with no plus
no_plus : (text : List ℕ) (n : ℕ) → n < 10 ^ 9 → text ≡ decimal n → without_leading_plus text ≡ decimal n
no_plus text n h e =
    let first = digit_at (decimal n) 0 (decimal_is_IsNumeral n (omega arith)).0.1 (decimal_nonempty n (omega arith)) in
    ap without_leading_plus e ∙ without_leading_plus_none (decimal n) (λ plus. omega arith)

module _ (text : List ℕ) where
  -- the text is what a number of at most nine digits writes
  abbrev pub Writes : ℕ → Type 0
  Writes n = (n < 10 ^ 9) × (text ≡ decimal n)

  -- then it is UTF-8, and the library reads this number
  pub not_utf8 : {T E : Type 0} (P : T → Type 0) (Q : E → Type 0) (r : Result T E) → MatchResult r P (λ e. (IsUtf8 text → ⊥) × Q e) → result_ok r ≡ None → (n : ℕ) → Writes n → ⊥
  not_utf8 P Q (Ok x) cases e n w = absurd (let z : ◌≡◌ {A = ℕ} 0 1 = cc in omega arith)
  not_utf8 P Q (Err x) cases e n w = cases.0 (subst IsUtf8 (sym w.1) (IsUtf8-from_ascii (decimal n) (IsAscii-decimal n (omega (arith, w.0)))))

  pub read_so : {E : Type 0} (r : Result ℕ E) → ParsesUnsigned 32 10 text r → Candidate Writes (result_ok r)
  read_so (Ok k) p = λ n w. sym (p.1 ∙ ap (digits_value 10) (no_plus text n w.0 w.1) ∙ (decimal_is_IsNumeral n (omega (arith, w.0))).1)
  read_so (Err x) p = λ n w. let numeral = decimal_is_IsNumeral n (omega (arith, w.0)) in p (rw (no_plus text n w.0 w.1) (numeral.0, omega (arith, w.0)))

  -- it has at most nine bytes, and a number that writes so few is below 10 ^ 9
  pub too_long : (length text ≤ 9 → ⊥) → (n : ℕ) → n < 10 ^ 9 → text ≡ decimal n → ⊥
  too_long long n h e = long (rw e (length-decimal-le 9 n (omega arith) (omega arith) (omega arith)))

  pub writes : length text ≤ 9 → (n : ℕ) → n < 2 ^ 32 → text ≡ decimal n → Writes n
  writes short n fits e =
      let few : length (decimal n) ≤ 9 = omega (arith, ap length e) in
      let s = digits_value_short own (decimal n) 9 (digits_decimal own n (omega arith)) few in
      (omega (arith, digits_value-decimal own n (omega arith)), e)

  -- and so it is for the one that is found
  pub found_number : (r : Option ℕ) → Found Writes r → MatchOption r ((n : ℕ) → n < 10 ^ 9 → text ≡ decimal n → ⊥) Writes
  found_number None none = λ n h e. none n (h, e)
  found_number (Some k) found = found.0
