-- What one step may do: each thing that is there after it was there before, or is new in one of a few ways.
use Rattle.std.proofs.Common.{◌≡◌, ℕ, ◌+◌, ◌*◌, ◌<◌, ◌≤◌, false, ◌⊎◌, Some, None, Option}
use Rattle.format.specs.declared.lease.Mark.{Mark}
use Rattle.format.specs.declared.lease.LeaseRecord.{LeaseRecord}
use Rattle.machine.specs.declared.types.Flight.{Flight}
use Rattle.machine.specs.declared.settings.Settings.{Settings}
use Rattle.machine.specs.View.{watching, Asked, idle, claimed, held, lasting, View, In, claim_record}
use Rattle.machine.proofs.Core.{Alive, Ours, Known, New, HeldUntil}

-- a write was issued: its mark is new, no other host validly holds, no claim stands in the block, its term is not below a grant
pub record Issued (s : Settings) (V W : View) (b : LeaseRecord) : Type 0 where
  pub new : New V b.mark
  pub used : Known W b.mark
  pub ours : {g r k u : ℕ} {p : Option Asked} → b.resource ≡ r → W.seat g r ≡ held k u p → W.tick < u → Ours W g k b
  pub alone : {g r k i : ℕ} {m : Mark} → b.resource ≡ r → V.seat g r ≡ claimed m k i → V.tick < i + s.lease → V.block r ≡ Some (claim_record r m k) → ⊥
  pub term : W.top b.resource ≤ b.term

-- a write landed: it is the block's record now, and in flight no more
pub record Landed (V W : View) (r : ℕ) (y : LeaseRecord) : Type 0 where
  pub flight : Flight
  pub was : In flight V.flights
  pub is : flight.body ≡ y
  pub there : y.resource ≡ r
  pub gone : {f : Flight} → In f W.flights → f.body.mark ≡ y.mark → ⊥

-- a claim was issued
pub record Claims (V W : View) (h r : ℕ) (m : Mark) (k i : ℕ) : Type 0 where
  pub owner : m.owner ≡ h
  pub generation : m.generation ≡ W.gen h
  pub new : New V m
  pub used : Known W m
  pub now : i ≡ V.tick
  pub above : W.top r < k

-- how a seat came to be held
pub data Holding (s : Settings) (V W : View) (h r k u : ℕ) (p : Option Asked) : Type 0 where
  kept : V.seat h r ≡ held k u p → (W.tick < u → V.named r ≡ lasting h u → W.named r ≡ lasting h u) → Holding s V W h r k u p
  renewing : (a : Asked) (q : Option Asked) → p ≡ Some a → V.seat h r ≡ held k u q → New V a.mark → a.at ≡ V.tick → (V.named r ≡ lasting h u → W.named r ≡ lasting h u) → Holding s V W h r k u p
  renewed : (a : Asked) (v : ℕ) (x : LeaseRecord) → p ≡ None → V.seat h r ≡ held k v (Some a) → V.tick < v → u ≡ a.at + s.lease → V.block r ≡ Some x → x.mark ≡ a.mark → W.named r ≡ lasting h u → Holding s V W h r k u p
  granted : (m : Mark) (i : ℕ) → p ≡ None → V.seat h r ≡ claimed m k i → V.block r ≡ Some (claim_record r m k) → i + (2 * s.delay + 1) ≤ V.tick → V.tick < i + s.lease → u ≡ i + s.lease → W.top r ≡ k → W.named r ≡ lasting h u → Holding s V W h r k u p

-- r is granted: its term is not below, nobody held it, and only the granted claim can still be read
pub record Granting (V W : View) (r : ℕ) : Type 0 where
  pub above : V.top r ≤ W.top r
  pub vacant : {g k u : ℕ} {p : Option Asked} → V.seat g r ≡ held k u p → V.tick < u → ⊥
  pub claims : {g k i : ℕ} {m : Mark} → W.seat g r ≡ claimed m k i → Alive V r (claim_record r m k) → ⊥
  pub terms : {x : LeaseRecord} → Alive V r x → W.top r ≤ x.term

-- time, hosts, writes in flight and blocks
pub record Course (s : Settings) (V W : View) : Type 0 where
  pub later : V.tick ≤ W.tick
  pub ages : (h : ℕ) → ((W.gen h ≡ V.gen h) × (V.stamp h ≤ W.stamp h)) ⊎ ((V.gen h < W.gen h) × ((r : ℕ) → W.seat h r ≡ idle))
  pub flights : {f : Flight} → In f W.flights → (In f V.flights ⊎ ((f.issued.0 ≡ V.tick) × Issued s V W f.body)) × (W.tick ≤ f.issued.0 + s.delay)
  pub blocks : {r : ℕ} {y : LeaseRecord} → W.block r ≡ Some y → (V.block r ≡ Some y) ⊎ Landed V W r y
  pub downs : {h r : ℕ} → W.up h ≡ false → W.seat h r ≡ idle

-- and the seats, the terms and the log
pub record Step (s : Settings) (V W : View) : Type 0 where
  pub course : Course s V W
  pub watches : {g q t : ℕ} {y : LeaseRecord} → W.seat g q ≡ watching y t → (V.seat g q ≡ watching y t) ⊎ ((V.block q ≡ Some y) × (t ≡ V.tick))
  pub claims : {h r k i : ℕ} {m : Mark} → W.seat h r ≡ claimed m k i → (V.seat h r ≡ claimed m k i) ⊎ Claims V W h r m k i
  pub holds : {h r k u : ℕ} {p : Option Asked} → W.seat h r ≡ held k u p → Holding s V W h r k u p
  pub tops : (r : ℕ) → (W.top r ≡ V.top r) ⊎ Granting V W r
  pub names : {r h u : ℕ} → W.named r ≡ lasting h u → ((V.named r ≡ lasting h u) × (HeldUntil V h r u → HeldUntil W h r u)) ⊎ HeldUntil W h r u
