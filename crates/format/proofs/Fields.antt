-- Fields of a line: no field holds a space, so the first space ends the first field.
use Rattle.std.proofs.Common.{◌≡◌, ℕ, ◌+◌, ◌-◌, ◌^◌, ◌<◌, ◌≤◌, Bool, true, false, cond, not, ◌&&◌, eqb, List, [], ◌∷◌, ◌++◌, length, get_or, take, drop, decimal, sym, refl, ap, ◌∙◌, subst, arith, MatchOption, Option, position, Some, None, ltb}
use Rattle.std.proofs.lemmas.List.{length-append, take_at, drop_at, append_assoc}
use Rattle.std.proofs.ByRecursion.{All-from_get_or}
use Rattle.std.proofs.lemmas.Fmt.{decimal_is_IsNumeral, decimal_injective, length-decimal-le}
use Rattle.std.proofs.lemmas.Str.Parse.{digit_at}
use Rattle.std.proofs.lemmas.Bool.{cond-true, ne_eqb, and_parts, eqb-false, not-true}
use Rattle.std.specs.List.{position_or_len}
use Rattle.std.proofs.lemmas.Bool.Decides.{nat_tests}
use Rattle.format.specs.declared.events.Event.{Event}
use Rattle.format.specs.declared.events.Event.TheVariants.{Granted, Renewed, Released, Expired, Crashed}
use Rattle.format.specs.Texts.{spaced, number_or_dash, Spaceless}
use Rattle.format.specs.Logs.{event_word}

abbrev pub is_space : ℕ → Bool
is_space b = eqb b 32

first_space : (x y : List ℕ) → Spaceless x → position_or_len is_space (spaced x y) ≡ length x
first_space [] y free = refl
first_space (b ∷ x) y free = let rest = first_space x y free.1 in rw (ne_eqb b 32 free.0) (omega arith)

-- where the first space of a field and what follows stands
pub position_is : (text x y : List ℕ) → Spaceless x → text ≡ spaced x y → position is_space text ≡ Some (length x)
position_is text x y free e =
    let n = first_space x y free in
    rw (e, n) (cond-true (ltb (length x) (length (spaced x y))) (Some (length x)) None (grind (arith, nat_tests, length-append x (32 ∷ y))))

pub rest_at : (x y : List ℕ) (n : ℕ) → n ≡ length x → drop (n + 1) (spaced x y) ≡ y
rest_at x y n e =
    ap (drop (n + 1)) (sym (append_assoc x (32 ∷ []) y)) ∙ drop_at (x ++ 32 ∷ []) y (n + 1) (length-append x (32 ∷ []) ∙ ap (λ k. k + 1) (sym e))

-- two ways to begin with a field are one
pub same_parts : (x y x' y' : List ℕ) → Spaceless x → Spaceless x' → spaced x y ≡ spaced x' y' → (x ≡ x') × (y ≡ y')
same_parts x y x' y' free free' e =
    let n : length x ≡ length x' = sym (first_space x y free) ∙ ap (position_or_len is_space) e ∙ first_space x' y' free' in (
      sym (take_at x (32 ∷ y) (length x) refl) ∙ ap (take (length x)) e ∙ take_at x' (32 ∷ y') (length x) (sym n),
      sym (rest_at x y (length x) refl) ∙ ap (drop (length x + 1)) e ∙ rest_at x' y' (length x) n,
    )

-- a test that computes
no_space : List ℕ → Bool
no_space [] = true
no_space (b ∷ rest) = not (eqb b 32) && no_space rest

spaceless_by : (text : List ℕ) → no_space text ≡ true → Spaceless text
unfolding no_space
spaceless_by [] e = tt
spaceless_by (b ∷ rest) e =
    let p = and_parts (not (eqb b 32)) (no_space rest) e in
    (eqb-false b 32 (not-true (eqb b 32) p.0), spaceless_by rest p.1)

pub spaceless_word : (v : Event) → Spaceless (event_word v)
unfolding no_space
spaceless_word Granted = spaceless_by (event_word Granted) refl
spaceless_word Renewed = spaceless_by (event_word Renewed) refl
spaceless_word Released = spaceless_by (event_word Released) refl
spaceless_word Expired = spaceless_by (event_word Expired) refl
spaceless_word Crashed = spaceless_by (event_word Crashed) refl

pub spaceless_decimal : (n : ℕ) → n < 2 ^ 64 → Spaceless (decimal n)
spaceless_decimal n h =
    let digits = (decimal_is_IsNumeral n h).0.1 in
    All-from_get_or (λ b. b ≡ 32 → ⊥) (decimal n) 0 (λ i l. λ e. let d = digit_at (decimal n) i digits l in omega arith)

pub spaceless_number : (applies : Bool) (n : ℕ) → n < 2 ^ 64 → Spaceless (number_or_dash applies n)
spaceless_number true n h = spaceless_decimal n h
spaceless_number false n h = (λ e. omega arith, tt)

-- a minus is no number
pub dash_differs : (n : ℕ) → n < 2 ^ 64 → 45 ∷ [] ≡ decimal n → ⊥
dash_differs n h e =
    let digits = (decimal_is_IsNumeral n h).0.1 in
    let long : 0 < length (decimal n) = subst (λ u. 0 < length u) e (omega arith) in
    let d = digit_at (decimal n) 0 digits long in
    let first : 45 ≡ get_or (decimal n) 0 0 = ap (λ u. get_or u 0 0) e in
    omega arith

-- the event of a word, by the first and the third letter
event_by : ℕ → ℕ → Event
event_by first third = cond (eqb first 103) Granted (cond (eqb first 101) Expired (cond (eqb first 99) Crashed (cond (eqb third 110) Renewed Released)))

event_back : (v : Event) → event_by (get_or (event_word v) 0 0) (get_or (event_word v) 2 0) ≡ v
unfolding event_by
event_back Granted = refl
event_back Renewed = refl
event_back Released = refl
event_back Expired = refl
event_back Crashed = refl

pub same_event : (v w : Event) → event_word v ≡ event_word w → v ≡ w
same_event v w e = sym (event_back v) ∙ ap (λ u. event_by (get_or u 0 0) (get_or u 2 0)) e ∙ event_back w

-- the number of a field that is no minus, read back
pub number_is : (field : List ℕ) (r : Option ℕ) → (field ≡ 45 ∷ [] → ⊥)
    → MatchOption r ((k : ℕ) → k < 10 ^ 9 → field ≡ decimal k → ⊥) (λ k. (k < 10 ^ 9) × (field ≡ decimal k))
    → MatchOption r ((applies : Bool) (n : ℕ) → n < 10 ^ 9 → field ≡ number_or_dash applies n → ⊥) (λ k. (applies : Bool) (n : ℕ) → n < 10 ^ 9 → (applies ≡ false → n ≡ 0) → field ≡ number_or_dash applies n → k ≡ n)
number_is field None no_dash none = elim [ true ↦ none | false ↦ λ n h e. no_dash e ]
number_is field (Some k) no_dash read =
    elim [ true ↦ λ n h zero e. let small = read.0 in decimal_injective k n (omega arith) (omega arith) (sym read.1 ∙ e) | false ↦ λ n h zero e. absurd (no_dash e) ]

-- the number of a minus
pub dash_is : (field : List ℕ) → field ≡ 45 ∷ [] → (applies : Bool) (n : ℕ) → n < 10 ^ 9 → (applies ≡ false → n ≡ 0) → field ≡ number_or_dash applies n → 0 ≡ n
dash_is field dash true n h zero e = absurd (dash_differs n (omega arith) (sym dash ∙ e))
dash_is field dash false n h zero e = sym (zero refl)

-- all but the last byte
pub all_but_last : (rest text : List ℕ) (b : ℕ) → rest ≡ text ++ b ∷ [] → take (length rest - 1) rest ≡ text
all_but_last rest text b e =
    let long : length rest ≡ length text + 1 = ap length e ∙ length-append text (b ∷ []) in
    ap (take (length rest - 1)) e ∙ take_at text (b ∷ []) (length rest - 1) (omega arith)

pub same_number : (applies : Bool) (m n : ℕ) → m < 2 ^ 64 → n < 2 ^ 64 → (applies ≡ false → m ≡ 0) → (applies ≡ false → n ≡ 0) → number_or_dash applies m ≡ number_or_dash applies n → m ≡ n
same_number true m n h k z w e = decimal_injective m n h k e
same_number false m n h k z w e = z refl ∙ sym (w refl)

-- how long a field can be
pub length_number : (applies : Bool) (k n : ℕ) → 0 < k → n < 10 ^ k → n < 2 ^ 64 → length (number_or_dash applies n) ≤ k
length_number true k n some low fits = length-decimal-le k n some low fits
length_number false k n some low fits = omega arith

pub length_word : (v : Event) → length (event_word v) ≤ 8
length_word Granted = omega arith
length_word Renewed = omega arith
length_word Released = omega arith
length_word Expired = omega arith
length_word Crashed = omega arith
