-- What the core of a room says at once.
use Rattle.std.proofs.Common.{◌≡◌, ℕ, ◌+◌, ◌*◌, ◌<◌, ◌≤◌, Some, Option, refl, ap, ◌∙◌, arith}
use Rattle.format.specs.declared.lease.Mark.{Mark}
use Rattle.format.specs.declared.lease.LeaseRecord.{LeaseRecord}
use Rattle.machine.specs.declared.settings.Settings.{Settings}
use Rattle.machine.specs.View.{Asked, claimed, held, View, claim_record}
use Rattle.machine.specs.Moves.{Open, free, still}
use Rattle.machine.proofs.Core.{Alive, flying, landed, Known, Core}

module _ {s : Settings} {V : View} (c : Core s V) where
  -- the mark of what can be read is known
  pub known_alive : (r : ℕ) (x : LeaseRecord) → Alive V r x → Known V x.mark
  known_alive r x (flying f i e q) = rw e at (c.known_flight i)
  known_alive r x (landed e) = c.known_block e

  -- two that validly hold one resource are one
  pub sole : {g h r k l u v : ℕ} {p q : Option Asked} → V.seat g r ≡ held k u p → V.tick < u → V.seat h r ≡ held l v q → V.tick < v → g ≡ h
  sole e i f j = let a = c.held_named e i in let b = c.held_named f j in cc

  -- who validly holds excludes a claim that can be read
  pub hold_claim : {g h r k l u i : ℕ} {p : Option Asked} {m : Mark} → V.seat g r ≡ held k u p → V.tick < u → V.seat h r ≡ claimed m l i → Alive V r (claim_record r m l) → ⊥
  hold_claim e late f a = omega (arith, c.hold_top e late, c.claim_top f a, (c.hold_ours e late a).term)

  -- over an open record nobody validly holds, and no claim stands
  pub open_vacant : {h r g k u : ℕ} {p : Option Asked} {x : LeaseRecord} → V.block r ≡ Some x → Open s V h r x → V.seat g r ≡ held k u p → V.tick < u → ⊥
  open_vacant b (free f) e late = let o = (c.hold_ours e late (landed b)).kind in cc
  open_vacant b (still t w long) e late = omega (arith, c.hold_watch e late b w refl)

  -- nor does a claim stand in the block of an open record
  pub open_unclaimed : {h r g k i : ℕ} {m : Mark} {x : LeaseRecord} → V.block r ≡ Some x → Open s V h r x → V.seat g r ≡ claimed m k i → V.tick < i + s.lease → V.block r ≡ Some (claim_record r m k) → ⊥
  open_unclaimed {r = r} {k = k} {m = m} {x = x} b (free f) e late b' = let q : x ≡ claim_record r m k = cc in let o = ap (λ (z : LeaseRecord). z.kind) q in cc
  open_unclaimed {r = r} {k = k} {m = m} {x = x} b (still t w long) e late b' = let q : x ≡ claim_record r m k = cc in omega (arith, c.claim_watch e w (ap (λ (z : LeaseRecord). z.mark) q))

  -- at a grant nothing but the claim can be read
  pub only_claim : {h r k i : ℕ} {m : Mark} {x : LeaseRecord} → V.seat h r ≡ claimed m k i → V.block r ≡ Some (claim_record r m k) → i + (2 * s.delay + 1) ≤ V.tick → V.tick < i + s.lease → Alive V r x → x ≡ claim_record r m k
  only_claim e b early late (flying f w is there) = absurd (omega (arith, c.claim_alone e late b w (ap (λ (z : LeaseRecord). z.resource) is ∙ there), (c.flight_time w).1))
  only_claim e b early late (landed b') = cc
