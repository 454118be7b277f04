-- Texts that are made piece by piece, as far as a buffer has room for them.
use Rattle.std.proofs.Common.{◌≡◌, ℕ, ◌≤◌, Bool, true, false, cond, leb, List, [], ◌++◌, length, Ok, Err, refl, ap, ◌∙◌, arith, leb-true}
use Rattle.std.proofs.lemmas.List.{length-append, append_assoc}
use Rattle.disk.specs.declared.fault.Refusal.TheVariants.{BufferShort}
use Rattle.format.specs.declared.buffer.LineBuffer.{LineBuffer}
use Rattle.format.specs.Texts.{held, Adds, print_answer}

-- two pieces, one after the other
pub two : (l m n : LineBuffer) (a b : List ℕ) → Adds l a m → Adds m b n → Adds l (a ++ b) n
two l m n a b p q room =
    let first : held m ≡ held l ++ a = p (omega (arith, length-append (held l) (a ++ b), length-append a b, length-append (held l) a)) in
    let e = ap (λ w. w ++ b) first ∙ append_assoc (held l) a b in
    q (omega (arith, ap length e)) ∙ e

-- a text that is made from nothing and fits
pub whole : (l m : LineBuffer) (text : List ℕ) → held l ≡ [] → Adds l text m → length text ≤ 64 → held m ≡ text
whole l m text none added fits = let e = ap (λ w. w ++ text) none in added (omega (arith, ap length e)) ∙ e

-- what is printed fits the buffer
pub printed_fits : (good : Bool) (text : List ℕ) (size n : ℕ) → Ok n ≡ print_answer good text size → n ≤ size
printed_fits true text size n e = fits (leb (length text) size) refl e
  where
    fits : (b : Bool) → leb (length text) size ≡ b → Ok n ≡ cond b (Ok (length text)) (Err BufferShort) → n ≤ size
    fits true l e = let same : n ≡ length text = cc in omega (arith, leb-true (length text) size l)
    fits false l e = absurd (let z : ◌≡◌ {A = ℕ} 0 1 = cc in omega arith)
printed_fits false text size n e = absurd (let z : ◌≡◌ {A = ℕ} 0 1 = cc in omega arith)
