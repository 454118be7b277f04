-- Whom a log names, by its entries and by what they leave.
use Rattle.std.proofs.Common.{◌≡◌, ℕ, ◌<◌, max, Bool, true, false, List, [], ◌∷◌, ◌++◌, refl, inl, inr, arith}
use Rattle.std.proofs.lemmas.Bool.{cases_Bool}
use Rattle.format.specs.declared.events.LogEntry.{LogEntry}
use Rattle.machine.specs.Soundness.{begins, ends, NoneAfter, Names}
use Rattle.machine.specs.View.{Owner, nobody, lasting, ended, named_by, owner, grant_of, highest}

-- entries after which h is still named
still_named : (es : List LogEntry) (h u r : ℕ) → NoneAfter es h r → owner (lasting h u) es r ≡ lasting h u
still_named [] h u r n = refl
still_named (e ∷ es) h u r n = rw (n.0, n.1) (still_named es h u r n.2)

-- one part of a log after another
owner_append : (o : Owner) (xs ys : List LogEntry) (r : ℕ) → owner o (xs ++ ys) r ≡ owner (owner o xs r) ys r
owner_append o [] ys r = refl
owner_append o (x ∷ xs) ys r = owner_append (named_by o x r) xs ys r

-- whom the entries name is whom they leave
pub names_owner : (log : List LogEntry) (r t h : ℕ) → Names log r t h → (u : ℕ) × (owner nobody log r ≡ lasting h u) × (t < u)
names_owner log r t h (front, e, back, is, begin, host, late, n) = (
  e.until.0,
  rw (is, owner_append nobody front (e ∷ back) r, begin, host) (still_named back h e.until.0 r n),
  late,
)

-- who is named after an entry that begins nothing was named before it, and it does not end that
pub ended_back : (e : LogEntry) (r : ℕ) (o : Owner) (h u : ℕ) → ended e r o ≡ lasting h u → (o ≡ lasting h u) × (ends e h r ≡ false)
ended_back e r nobody h u n = cc
ended_back e r (lasting g v) h u n = go (ends e g r) refl
  where
    go : (b : Bool) → ends e g r ≡ b → (lasting g v ≡ lasting h u) × (ends e h r ≡ false)
    go true i = cc
    go false i = (cc, let j : g ≡ h = cc in rw j at i)

-- how a log came to name h
data Cause (o : Owner) (log : List LogEntry) (r h u : ℕ) : Type 0 where
  before : o ≡ lasting h u → NoneAfter log h r → Cause o log r h u
  within : (front : List LogEntry) (e : LogEntry) (back : List LogEntry) → log ≡ front ++ (e ∷ back) → begins e r ≡ true → e.host ≡ h → e.until.0 ≡ u → NoneAfter back h r → Cause o log r h u

-- some entry caused it
cause : (o : Owner) (log : List LogEntry) (r h u : ℕ) → owner o log r ≡ lasting h u → Cause o log r h u
cause o [] r h u e = before e tt
cause o (x ∷ log) r h u e = go (cause (named_by o x r) log r h u e)
  where
    go : Cause (named_by o x r) log r h u → Cause o (x ∷ log) r h u
    go (within front y back is begin host until n) = within (x ∷ front) y back (rw is) begin host until n
    go (before is n) = elim (cases_Bool (begins x r)) [
      | inl b ↦ let q : lasting x.host x.until.0 ≡ lasting h u = rw b at is in within [] x log refl b (cc) (cc) n
      | inr b ↦ let p = ended_back x r o h u (rw b at is) in before p.0 (b, p.1, n)
    ]

-- whom the entries leave is whom they name
pub owner_names : (log : List LogEntry) (r t h u : ℕ) → owner nobody log r ≡ lasting h u → t < u → Names log r t h
owner_names log r t h u e late = go (cause nobody log r h u e)
  where
    go : Cause nobody log r h u → Names log r t h
    go (before is n) = cc
    go (within front x back is begin host until n) = (front, x, back, is, begin, host, omega arith, n)

-- a log with one entry more
pub owner_push : (o : Owner) (es : List LogEntry) (e : LogEntry) (r : ℕ) → owner o (es ++ (e ∷ [])) r ≡ named_by (owner o es r) e r
owner_push o [] e r = refl
owner_push o (x ∷ es) e r = owner_push (named_by o x r) es e r

-- and its highest granted term
pub highest_push : (n : ℕ) (es : List LogEntry) (e : LogEntry) (r : ℕ) → highest n (es ++ (e ∷ [])) r ≡ max (highest n es r) (grant_of e r)
highest_push n [] e r = refl
highest_push n (x ∷ es) e r = highest_push (max n (grant_of x r)) es e r
