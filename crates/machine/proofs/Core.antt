-- What every room keeps, as ticks: who may write a resource's block, who may claim it, and whom the log names.
use Rattle.std.proofs.Common.{◌≡◌, ℕ, ◌+◌, ◌<◌, ◌≤◌, false, ◌⊎◌, Some, Option}
use Rattle.format.specs.declared.lease.Kind.TheVariants.{Owned}
use Rattle.format.specs.declared.lease.Mark.{Mark}
use Rattle.format.specs.declared.lease.LeaseRecord.{LeaseRecord}
use Rattle.machine.specs.declared.types.Flight.{Flight}
use Rattle.machine.specs.declared.settings.Settings.{Settings}
use Rattle.machine.specs.View.{watching, claim_record, Asked, idle, claimed, held, lasting, View, In}

-- x can still be read for r: it is in flight to r's block, or that block reads as x
pub data Alive (V : View) (r : ℕ) (x : LeaseRecord) : Type 0 where
  flying : (f : Flight) → In f V.flights → f.body ≡ x → x.resource ≡ r → Alive V r x
  landed : V.block r ≡ Some x → Alive V r x

-- x is an owned record of host h as it is now, under term k
pub record Ours (V : View) (h k : ℕ) (x : LeaseRecord) : Type 0 where
  pub kind : x.kind ≡ Owned
  pub owner : x.mark.owner ≡ h
  pub generation : x.mark.generation ≡ V.gen h
  pub term : x.term ≡ k

-- mark m may have been issued
abbrev pub Known : View → Mark → Type 0
Known V m = (m.generation < V.gen m.owner) ⊎ ((m.generation ≡ V.gen m.owner) × (m.stamp ≤ V.stamp m.owner))

-- mark m has not been issued: it is the next of its host's, or later
abbrev pub New : View → Mark → Type 0
New V m = (m.generation ≡ V.gen m.owner) × (V.stamp m.owner < m.stamp)

-- the seat of h for r is held until tick u
abbrev pub HeldUntil : View → ℕ → ℕ → ℕ → Type 0
HeldUntil V h r u = (k : ℕ) × (p : Option Asked) × (V.seat h r ≡ held k u p)

pub record Core (s : Settings) (V : View) : Type 0 where
  -- a valid holder: all that can be read for r is its own, whoever watches its record waits for it, its term is the highest
  pub hold_ours : {h r k u : ℕ} {p : Option Asked} {x : LeaseRecord} → V.seat h r ≡ held k u p → V.tick < u → Alive V r x → Ours V h k x
  pub hold_watch : {h r k u g t : ℕ} {p : Option Asked} {x y : LeaseRecord} → V.seat h r ≡ held k u p → V.tick < u → V.block r ≡ Some x → V.seat g r ≡ watching y t → y.mark ≡ x.mark → u ≤ t + s.lease
  pub hold_top : {h r k u : ℕ} {p : Option Asked} → V.seat h r ≡ held k u p → V.tick < u → V.top r ≡ k
  pub hold_near : {h r k u : ℕ} {p : Option Asked} → V.seat h r ≡ held k u p → u ≤ V.tick + s.lease
  -- a claim: its mark, its term above every grant while it can be read, no younger write behind it, no watcher from before it
  pub claim_mark : {h r k i : ℕ} {m : Mark} → V.seat h r ≡ claimed m k i → (m.owner ≡ h) × (m.generation ≡ V.gen h) × (i ≤ V.tick) × Known V m
  pub claim_top : {h r k i : ℕ} {m : Mark} → V.seat h r ≡ claimed m k i → Alive V r (claim_record r m k) → V.top r < k
  pub claim_alone : {h r k i : ℕ} {m : Mark} {f : Flight} → V.seat h r ≡ claimed m k i → V.tick < i + s.lease → V.block r ≡ Some (claim_record r m k) → In f V.flights → f.body.resource ≡ r → f.issued.0 ≤ i + s.delay
  pub claim_watch : {h r k i g q t : ℕ} {m : Mark} {y : LeaseRecord} → V.seat h r ≡ claimed m k i → V.seat g q ≡ watching y t → y.mark ≡ m → i ≤ t
  pub claim_flight : {h r k i : ℕ} {m : Mark} {f : Flight} → V.seat h r ≡ claimed m k i → In f V.flights → f.body.mark ≡ m → f.issued.0 ≤ i
  -- a pending renewal was asked for by now, and nobody has watched its record from before that
  pub asked_now : {h r k u : ℕ} {a : Asked} → V.seat h r ≡ held k u (Some a) → a.at ≤ V.tick
  pub asked_watch : {h r k u g q t : ℕ} {a : Asked} {y : LeaseRecord} → V.seat h r ≡ held k u (Some a) → V.seat g q ≡ watching y t → y.mark ≡ a.mark → a.at ≤ t
  -- writes in flight are young, and their marks are nowhere else
  pub flight_time : {f : Flight} → In f V.flights → (f.issued.0 ≤ V.tick) × (V.tick ≤ f.issued.0 + s.delay)
  pub fresh_block : {r : ℕ} {f : Flight} {y : LeaseRecord} → In f V.flights → V.block r ≡ Some y → f.body.mark ≡ y.mark → ⊥
  pub fresh_watch : {g q t : ℕ} {f : Flight} {y : LeaseRecord} → In f V.flights → V.seat g q ≡ watching y t → f.body.mark ≡ y.mark → ⊥
  pub known_flight : {f : Flight} → In f V.flights → Known V f.body.mark
  pub known_block : {r : ℕ} {y : LeaseRecord} → V.block r ≡ Some y → Known V y.mark
  pub known_watch : {g q t : ℕ} {y : LeaseRecord} → V.seat g q ≡ watching y t → Known V y.mark
  -- no record lies below a granted term
  pub terms : {r : ℕ} {x : LeaseRecord} → Alive V r x → V.top r ≤ x.term
  -- whom the log names has a held seat until then, and it names every valid holder
  pub named_held : {r h u : ℕ} → V.named r ≡ lasting h u → HeldUntil V h r u
  pub held_named : {h r k u : ℕ} {p : Option Asked} → V.seat h r ≡ held k u p → V.tick < u → V.named r ≡ lasting h u
  -- a host that is down has no seat
  pub down_idle : {h r : ℕ} → V.up h ≡ false → V.seat h r ≡ idle
