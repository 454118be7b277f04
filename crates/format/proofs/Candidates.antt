-- A candidate that is tested: what passes is the one value that is meant.
use Rattle.std.proofs.Common.{◌≡◌, ℕ, Bool, true, false, Some, None, Option, MatchOption, Decides, Ok, refl, sym, ap, subst, arith}
use Rattle.std.specs.Bool.{then_some}
use Rattle.std.specs.Option.{ok_or}
use Rattle.std.proofs.lemmas.Bool.{false≢true}

module _ {X : Type 0} (Meant : X → Type 0) where
  -- none is meant, or this is the only one that can be
  abbrev pub Candidate : Option X → Type 0
  Candidate r = MatchOption r ((x : X) → Meant x → ⊥) (λ y. (x : X) → Meant x → x ≡ y)

  -- none is meant, or this is, and no other
  abbrev pub Found : Option X → Type 0
  Found r = MatchOption r ((x : X) → Meant x → ⊥) (λ y. Meant y × ((x : X) → Meant x → x ≡ y))

  pub passed : (b : Bool) (y : X) (s : Option X) → ((x : X) → Meant x → x ≡ y) → Decides b (Meant y) → s ≡ then_some b y → Found s
  passed true y s only test kept = rw kept (test.0 refl, only)
  passed false y s only test kept = rw kept (λ x m. false≢true (test.1 (subst Meant (only x m) m)))

  -- the test is a closure, of whose answer P tells
  pub checked : (r s : Option X) (P : X → Bool → Type 0) → Candidate r → MatchOption r (s ≡ None) (λ y. (b : Bool) × P y b × (s ≡ then_some b y))
      → ((y : X) (b : Bool) → P y b → Decides b (Meant y)) → Found s
  checked None s P none kept test = rw kept none
  checked (Some y) s P only kept test = passed kept.0 y s only (test y kept.0 kept.1) kept.2

  -- only one can be found
  pub one_found : (r s : Option X) → Found r → Found s → r ≡ s
  one_found None None f g = refl
  one_found None (Some y) f g = absurd (f y g.0)
  one_found (Some x) None f g = absurd (g x f.0)
  one_found (Some x) (Some y) f g = ap Some (g.1 x f.0)

  -- what is answered is meant, and what is meant is answered
  pub exactly : {E : Type 0} (e : E) (s : Option X) → Found s → (x : X) → (ok_or s e ≡ Ok x → Meant x) × (Meant x → ok_or s e ≡ Ok x)
  exactly e None none x = (λ o. absurd (let z : ◌≡◌ {A = ℕ} 0 1 = cc in omega arith), λ m. absurd (none x m))
  exactly e (Some y) found x = (λ o. let same : y ≡ x = cc in subst Meant same found.0, λ m. ap Ok (sym (found.1 x m)))
