-- The moves of a room: what can happen to it, in the subject's own words.
use Rattle.std.specs.Prelude.{◌≡◌, ℕ, ◌+◌, ◌*◌, ◌<◌, ◌≤◌, max, Bool, true, false, ◌⊎◌, List, [], ◌∷◌, ◌++◌, Some, None, Option, ◌≢◌}
use Rattle.format.specs.declared.lease.Kind.TheVariants.{Free}
use Rattle.format.specs.declared.lease.Mark.{Mark}
use Rattle.format.specs.declared.lease.LeaseRecord.{LeaseRecord}
use Rattle.machine.specs.declared.types.Flight.{Flight}
use Rattle.machine.specs.declared.settings.Settings.{Settings}
use Rattle.format.specs.declared.events.Event.{Event}
use Rattle.format.specs.declared.events.Event.TheVariants as events
use Rattle.format.specs.declared.events.LogEntry.{LogEntry}
use Rattle.disk.specs.Model.{DiskModel}
use Rattle.format.specs.Blocks.{founding}
use Rattle.machine.specs.Room.{World}
use Rattle.machine.specs.Calls.{Call, after, perform}
use Rattle.machine.specs.Soundness.{fresh_world}
use Rattle.machine.specs.View.{watching, nobody, view, Asked, Place, idle, claimed, held, View, In, named_by, grant_of, claim_record}

-- an idle seat, or one that watches
abbrev pub vacant : Place → Bool
vacant idle = true
vacant (watching x t) = true
vacant (claimed m k i) = false
vacant (held k u p) = false

-- a turn of host h at its seat for r, which leaves x there
pub record Turn (V W : View) (h r : ℕ) (x : Place) : Type 0 where
  pub tick : W.tick ≡ V.tick
  pub awake : V.up h ≡ true
  pub ups : (g : ℕ) → W.up g ≡ V.up g
  pub gens : (g : ℕ) → W.gen g ≡ V.gen g
  pub here : W.seat h r ≡ x
  pub seats : (g q : ℕ) → ((g ≡ h) × (q ≡ r)) ⊎ ((g ≡ h → q ≢ r) × (W.seat g q ≡ V.seat g q))
  pub blocks : (q : ℕ) → W.block q ≡ V.block q

-- nothing is logged
pub record Unlogged (V W : View) : Type 0 where
  pub names : (q : ℕ) → W.named q ≡ V.named q
  pub tops : (q : ℕ) → W.top q ≡ V.top q

-- one entry is logged
pub record Logged (V W : View) (e : LogEntry) : Type 0 where
  pub names : (q : ℕ) → W.named q ≡ named_by (V.named q) e q
  pub tops : (q : ℕ) → W.top q ≡ max (V.top q) (grant_of e q)

-- an entry of the log by its parts
abbrev pub note : ℕ → Event → ℕ → ℕ → ℕ → ℕ → LogEntry
note t event h r k u = record { tick = record { 0 = t }; event = event; host = h; resource = r; term = k; until = record { 0 = u } }

-- nothing is issued
pub record Unsent (V W : View) : Type 0 where
  pub flights : W.flights ≡ V.flights
  pub stamps : (g : ℕ) → W.stamp g ≡ V.stamp g

-- host h issues b, under its next mark
pub record Sent (V W : View) (h r : ℕ) (b : LeaseRecord) : Type 0 where
  pub there : b.resource ≡ r
  pub owner : b.mark.owner ≡ h
  pub generation : b.mark.generation ≡ V.gen h
  pub stamp : b.mark.stamp ≡ V.stamp h + 1
  pub used : W.stamp h ≡ b.mark.stamp
  pub others : (g : ℕ) → (g ≢ h) → W.stamp g ≡ V.stamp g
  pub flights : W.flights ≡ V.flights ++ (record { body = b; issued = record { 0 = V.tick } } ∷ [])

-- why a record may be claimed over: it is free, or it was watched for a lease
pub data Open (s : Settings) (V : View) (h r : ℕ) (x : LeaseRecord) : Type 0 where
  free : x.kind ≡ Free → Open s V h r x
  still : (t : ℕ) → V.seat h r ≡ watching x t → t + s.lease ≤ V.tick → Open s V h r x

-- nothing has happened yet: every seat is idle, nothing is in flight or logged
pub record Untouched (V : View) : Type 0 where
  pub seats : (h r : ℕ) → V.seat h r ≡ idle
  pub flights : {f : Flight} → In f V.flights → ⊥
  pub tops : (r : ℕ) → V.top r ≡ 0
  pub names : (r : ℕ) → V.named r ≡ nobody

-- the tick, the hosts and the seats stay, and nothing is logged
pub record Still (V W : View) : Type 0 where
  pub tick : W.tick ≡ V.tick
  pub ups : (h : ℕ) → W.up h ≡ V.up h
  pub gens : (h : ℕ) → W.gen h ≡ V.gen h
  pub stamps : (h : ℕ) → W.stamp h ≡ V.stamp h
  pub seats : (h r : ℕ) → W.seat h r ≡ V.seat h r
  pub unlogged : Unlogged V W

-- f was in flight and is no more, and the other writes are as before
pub record Gone (V W : View) (f : Flight) : Type 0 where
  pub was : In f V.flights
  pub flights : (e : Flight) → In e W.flights → In e V.flights × (e.body.mark ≢ f.body.mark)
  pub others : (e : Flight) → In e V.flights → (e.body.mark ≢ f.body.mark) → In e W.flights

-- every block reads as before
abbrev pub Unwritten : View → View → Type 0
Unwritten V W = (r : ℕ) → W.block r ≡ V.block r

-- every block but r reads as before, and r as x
abbrev pub Written : View → View → ℕ → Option LeaseRecord → Type 0
Written V W r x = (q : ℕ) → ((q ≡ r) × (W.block q ≡ x)) ⊎ (W.block q ≡ V.block q)

-- host h has changed, and no other
pub record Changed (V W : View) (h : ℕ) : Type 0 where
  pub ups : (g : ℕ) → (g ≢ h) → W.up g ≡ V.up g
  pub gens : (g : ℕ) → (g ≢ h) → W.gen g ≡ V.gen g
  pub stamps : (g : ℕ) → (g ≢ h) → W.stamp g ≡ V.stamp g

-- from the view V of a room to the view W: what has to hold before, what changes, and what stays
pub data Move (s : Settings) (V W : View) : Type 0 where
  -- nothing that the view shows changes: a refused call leaves other tallies, or blocks of a room that is still closed
  rests : W ≡ V → Move s V W
  -- a clock is set, before anything has happened
  sets : Untouched V → Still V W → W.flights ≡ V.flights → Unwritten V W → Move s V W
  -- the room opens, before anything has happened: each block reads as its founding record, whose generation 0 is no host's
  opens : Untouched V → Still V W → W.flights ≡ V.flights
      → ((r : ℕ) (x : LeaseRecord) → W.block r ≡ Some x → x ≡ founding r)
      → 1 ≤ V.gen 0 → Move s V W
  -- a tick passes, and the writes that are too old are lost
  passes : W.tick ≡ V.tick + 1
      → ((h : ℕ) → W.up h ≡ V.up h) → ((h : ℕ) → W.gen h ≡ V.gen h) → ((h : ℕ) → W.stamp h ≡ V.stamp h)
      → ((h r : ℕ) → W.seat h r ≡ V.seat h r) → Unlogged V W → Unwritten V W
      → ((f : Flight) → In f W.flights → In f V.flights × (W.tick ≤ f.issued.0 + s.delay))
      → ((f : Flight) → In f V.flights → W.tick ≤ f.issued.0 + s.delay → In f W.flights) → Move s V W
  -- a write is lost
  loses : (f : Flight) → Still V W → Gone V W f → Unwritten V W → Move s V W
  -- a write lands
  lands : (f : Flight) → Still V W → Gone V W f → Written V W f.body.resource (Some f.body) → Move s V W
  -- a block is spoiled
  spoils : (r : ℕ) → Still V W → W.flights ≡ V.flights → Written V W r None → Move s V W
  -- a host notes the record that it read
  notes : (h r : ℕ) (x : LeaseRecord)
      → Turn V W h r (watching x V.tick) → Unlogged V W → Unsent V W
      → vacant (V.seat h r) ≡ true → V.block r ≡ Some x → Move s V W
  -- a host claims over the record that it read
  claims : (h r : ℕ) (m : Mark) (x : LeaseRecord)
      → Turn V W h r (claimed m (x.term + 1) V.tick) → Unlogged V W → Sent V W h r (claim_record r m (x.term + 1))
      → vacant (V.seat h r) ≡ true → V.block r ≡ Some x → Open s V h r x → Move s V W
  -- a claim is granted
  grants : (h r : ℕ) (m : Mark) (k i : ℕ)
      → Turn V W h r (held k (i + s.lease) None)
      → Logged V W (note V.tick events.Granted h r k (i + s.lease)) → Unsent V W
      → V.seat h r ≡ claimed m k i → V.block r ≡ Some (claim_record r m k)
      → i + (2 * s.delay + 1) ≤ V.tick → V.tick < i + s.lease → Move s V W
  -- a holder asks for a renewal
  renews : (h r : ℕ) (m : Mark) (k u : ℕ) (p : Option Asked)
      → Turn V W h r (held k u (Some (record { mark = m; at = V.tick }))) → Unlogged V W → Sent V W h r (claim_record r m k)
      → V.seat h r ≡ held k u p → V.tick < u → Move s V W
  -- a renewal is confirmed
  confirms : (h r : ℕ) (k u : ℕ) (a : Asked) (x : LeaseRecord)
      → Turn V W h r (held k (a.at + s.lease) None)
      → Logged V W (note V.tick events.Renewed h r k (a.at + s.lease)) → Unsent V W
      → V.seat h r ≡ held k u (Some a) → V.tick < u → V.block r ≡ Some x → x.mark ≡ a.mark → Move s V W
  -- a holder releases
  releases : (h r : ℕ) (m : Mark) (k u : ℕ) (p : Option Asked)
      → Turn V W h r idle → Logged V W (note V.tick events.Released h r k 0)
      → Sent V W h r (record { kind = Free; resource = r; mark = m; term = k })
      → V.seat h r ≡ held k u p → V.tick < u → Move s V W
  -- a claim is given up, once it can be checked
  leaves : (h r : ℕ) (m : Mark) (k i : ℕ)
      → Turn V W h r idle → Unlogged V W → Unsent V W
      → V.seat h r ≡ claimed m k i → i + (2 * s.delay + 1) ≤ V.tick → Move s V W
  -- a lease is over
  expires : (h r : ℕ) (k u : ℕ) (p : Option Asked)
      → Turn V W h r idle → Logged V W (note V.tick events.Expired h r k 0) → Unsent V W
      → V.seat h r ≡ held k u p → u ≤ V.tick → Move s V W
  -- a host goes down
  crashes : (h : ℕ) → V.up h ≡ true → W.up h ≡ false → W.tick ≡ V.tick → ((g : ℕ) → W.gen g ≡ V.gen g)
      → ((g q : ℕ) → ((g ≡ h) × (W.seat g q ≡ idle)) ⊎ ((g ≢ h) × (W.seat g q ≡ V.seat g q) × (W.up g ≡ V.up g)))
      → Unwritten V W → Logged V W (note V.tick events.Crashed h 0 0 0) → Unsent V W → Move s V W
  -- a host comes back in its next generation, with no stamp used
  returns : (h : ℕ) → V.up h ≡ false → W.up h ≡ true → W.gen h ≡ V.gen h + 1 → W.stamp h ≡ 0 → Changed V W h
      → W.tick ≡ V.tick → ((g q : ℕ) → W.seat g q ≡ V.seat g q)
      → Unwritten V W → Unlogged V W → W.flights ≡ V.flights → Move s V W

-- a call that is made of a room after any run is one of these moves
abbrev pub EveryCallMoves : Type 0
EveryCallMoves =
    (s : Settings) (d : DiskModel) (log : List LogEntry) (calls : List Call) (c : Call)
    → (let w : World = after (fresh_world s d log) calls in Move w.room.settings (view w) (view (perform c w).world))
