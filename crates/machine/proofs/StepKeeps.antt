-- A step keeps the core of a room.
use Rattle.std.proofs.Common.{◌≡◌, ℕ, ◌+◌, ◌*◌, ◌<◌, ◌≤◌, ◌⊎◌, Some, Option, sym, refl, ap, ◌∙◌, subst, inl, inr, arith}
use Rattle.format.specs.declared.lease.Mark.{Mark}
use Rattle.format.specs.declared.lease.LeaseRecord.{LeaseRecord}
use Rattle.machine.specs.declared.types.Flight.{Flight}
use Rattle.machine.specs.declared.settings.Settings.{Settings}
use Rattle.machine.specs.View.{watching, Asked, Place, idle, claimed, held, View, In, claim_record}
use Rattle.machine.proofs.Core.{Alive, flying, landed, Ours, Known, New, Core}
use Rattle.machine.proofs.CoreFacts.{known_alive, only_claim}
use Rattle.machine.proofs.Step.{Issued, Landed, kept, renewing, renewed, granted, Step}

-- a new mark is not known
pub new_known : (V : View) {m n : Mark} → New V m → Known V n → m ≡ n → ⊥
new_known V {m} new known e = let k : Known V m = subst (Known V) (sym e) known in omega arith

-- seats of two kinds differ
pub claimed_idle : {m : Mark} {k i : ℕ} → claimed m k i ≡ idle → ⊥
claimed_idle e = cc

-- so do these
pub held_idle : {k u : ℕ} {p : Option Asked} → held k u p ≡ idle → ⊥
held_idle e = cc

module _ {s : Settings} {V W : View} (c : Core s V) (t : Step s V W) where
  -- a known mark stays known
  known_on : (m : Mark) → Known V m → Known W m
  known_on m h = elim (t.course.ages m.owner) [
    | inl a ↦ elim h [ inl b ↦ inl (omega arith) | inr b ↦ inr (b.0 ∙ sym a.0, omega arith) ]
    | inr a ↦ elim h [ inl b ↦ inl (omega arith) | inr b ↦ inl (omega arith) ]
  ]

  -- the host of a seat that is not idle has kept its generation
  awake : (h r : ℕ) (x : Place) → W.seat h r ≡ x → (x ≡ idle → ⊥) → W.gen h ≡ V.gen h
  awake h r x e n = elim (t.course.ages h) [ inl a ↦ a.0 | inr a ↦ absurd (n (sym e ∙ a.1 r)) ]

  -- what can be read after the step could be before it, or was just issued
  alive_back : (r : ℕ) (x : LeaseRecord) → Alive W r x → Alive V r x ⊎ (Issued s V W x × (x.resource ≡ r))
  alive_back r x (flying f i e q) = elim (t.course.flights i).0 [ inl j ↦ inl (flying f j e q) | inr j ↦ inr (rw e at j.1, q) ]
  alive_back r x (landed e) = elim (t.course.blocks e) [ inl j ↦ inl (landed j) | inr j ↦ inl (flying j.flight j.was j.is j.there) ]

  -- so the mark of a record that was not just issued was known
  known_block_back : {r : ℕ} {y : LeaseRecord} → W.block r ≡ Some y → Known V y.mark
  known_block_back {r} {y} e = elim (t.course.blocks e) [ inl j ↦ c.known_block j | inr j ↦ known_alive c r y (flying j.flight j.was j.is j.there) ]

  -- the mark of a record that is watched after the step was known before it
  known_watch_back : {g q u : ℕ} {y : LeaseRecord} → W.seat g q ≡ watching y u → Known V y.mark
  known_watch_back e = elim (t.watches e) [ inl j ↦ c.known_watch j | inr j ↦ c.known_block j.0 ]

  -- no write in flight is younger than the step
  flight_now : {f : Flight} → In f W.flights → f.issued.0 ≤ V.tick
  flight_now i = elim (t.course.flights i).0 [ inl j ↦ (c.flight_time j).0 | inr j ↦ omega arith ]

  -- a record that has just landed is watched by nobody
  landed_watch : {r g q u : ℕ} {x y : LeaseRecord} → Landed V W r x → W.seat g q ≡ watching y u → y.mark ≡ x.mark → ⊥
  landed_watch l e same = elim (t.watches e) [
    | inl j ↦ c.fresh_watch l.was j (rw l.is (sym same))
    | inr j ↦ c.fresh_block l.was j.0 (rw l.is (sym same))
  ]

  -- what was a holder's own stays so
  ours_on : {h r k u : ℕ} {p : Option Asked} {x : LeaseRecord} → W.seat h r ≡ held k u p → Ours V h k x → Ours W h k x
  ours_on {h} {r} e o = record { kind = o.kind; owner = o.owner; generation = o.generation ∙ sym (awake h r _ e held_idle); term = o.term }

  -- of r's grant nothing but the claim can be read
  granted_ours : {h r k i : ℕ} {m : Mark} {x : LeaseRecord} → V.seat h r ≡ claimed m k i → V.block r ≡ Some (claim_record r m k) → i + (2 * s.delay + 1) ≤ V.tick → V.tick < i + s.lease → Alive V r x → Ours V h k x
  granted_ours {r = r} {k = k} {m = m} {x = x} e b early late a =
      let q : x ≡ claim_record r m k = only_claim c e b early late a in
      let o = c.claim_mark e in
      rw q (record { kind = refl; owner = o.0; generation = o.1; term = refl })

  -- whoever watches the record of a lease that was not extended waits for it
  old_watch : {h r k u g v : ℕ} {p : Option Asked} {x y : LeaseRecord} → V.seat h r ≡ held k u p → V.tick < u → V.block r ≡ Some x → W.seat g r ≡ watching y v → y.mark ≡ x.mark → u ≤ v + s.lease
  old_watch old late b w same = elim (t.watches w) [ inl w' ↦ c.hold_watch old late b w' same | inr w' ↦ omega (arith, w'.1, c.hold_near old) ]

  -- a holder's term stays the highest: a grant finds no holder
  top_on : {h r k u : ℕ} {p : Option Asked} → V.seat h r ≡ held k u p → V.tick < u → W.top r ≡ k
  top_on {r = r} old soon = elim (t.tops r) [ inl same ↦ same ∙ c.hold_top old soon | inr g ↦ absurd (g.vacant old soon) ]

  -- so a step keeps the core
  pub step_keeps : Core s W
  step_keeps = record {
    hold_ours = λ {r = r} {x = x} e late a. elim (alive_back r x a) [
      | inr n ↦ n.0.ours n.1 e late
      | inl b ↦ ours_on e (elim (t.holds e) [
        | kept old _ ↦ c.hold_ours old (omega arith) b
        | renewing a q _ old _ _ _ ↦ c.hold_ours old (omega arith) b
        | renewed a v x _ old soon _ _ _ _ ↦ c.hold_ours old soon b
        | granted m i _ old stands early soon _ _ _ ↦ granted_ours old stands early soon b
      ])
    ];
    hold_watch = λ {r = r} {k = k} {x = x} {y = y} e late b w same. elim (t.course.blocks b) [
      | inr l ↦ absurd (landed_watch l w same)
      | inl b' ↦ elim (t.holds e) [
        | kept old _ ↦ old_watch old (omega arith) b' w same
        | renewing a q _ old _ _ _ ↦ old_watch old (omega arith) b' w same
        | renewed a z x' _ old soon is b'' mark _ ↦ let m : y.mark ≡ a.mark = (let q : x ≡ x' = cc in (rw q at same) ∙ mark) in
            elim (t.watches w) [ inl w' ↦ omega (arith, c.asked_watch old w' m) | inr w' ↦ omega (arith, w'.1, c.asked_now old) ]
        | granted m i _ old stands early soon is _ _ ↦ let q : x ≡ claim_record r m k = cc in
            elim (t.watches w) [ inl w' ↦ omega (arith, c.claim_watch old w' (rw q at same)) | inr w' ↦ omega arith ]
      ]
    ];
    hold_top = λ e late. elim (t.holds e) [
      | kept old _ ↦ top_on old (omega arith)
      | renewing a q _ old _ _ _ ↦ top_on old (omega arith)
      | renewed a z x' _ old soon _ _ _ _ ↦ top_on old soon
      | granted m i _ old stands early soon is top _ ↦ top
    ];
    hold_near = λ e. elim (t.holds e) [
      | kept old _ ↦ omega (arith, c.hold_near old, t.course.later)
      | renewing a q _ old _ _ _ ↦ omega (arith, c.hold_near old, t.course.later)
      | renewed a z x' _ old soon is _ _ _ ↦ omega (arith, c.asked_now old, t.course.later)
      | granted m i _ old stands early soon is top _ ↦ omega arith
    ];
    claim_mark = λ {h} {r} {m = m} e. elim (t.claims e) [
      | inl j ↦ let b = c.claim_mark j in (b.0, b.1 ∙ sym (awake h r _ e claimed_idle), omega arith, known_on m b.3)
      | inr j ↦ (j.owner, j.generation, omega arith, j.used)
    ];
    claim_top = λ {r = r} {k = k} {m = m} e a. elim (t.claims e) [
      | inr j ↦ j.above
      | inl j ↦ elim (alive_back r (claim_record r m k) a) [
        | inr n ↦ absurd (new_known V {m = m} n.0.new (c.claim_mark j).3 refl)
        | inl b ↦ elim (t.tops r) [ inl same ↦ omega (arith, c.claim_top j b) | inr g ↦ absurd (g.claims e b) ]
      ]
    ];
    claim_alone = λ {m = m} e soon b w there. elim (t.claims e) [
      | inr j ↦ absurd (new_known V {m = m} j.new (known_block_back b) refl)
      | inl j ↦ elim (t.course.blocks b) [
        | inr l ↦ omega (arith, flight_now w, (c.flight_time l.was).1, c.claim_flight j l.was (rw l.is))
        | inl b' ↦ elim (t.course.flights w).0 [
          | inl w' ↦ c.claim_alone j (omega arith) b' w' there
          | inr n ↦ absurd (n.1.alone there j (omega arith) b')
        ]
      ]
    ];
    claim_watch = λ e w same. elim (t.claims e) [
      | inr j ↦ absurd (new_known V j.new (known_watch_back w) (sym same))
      | inl j ↦ elim (t.watches w) [ inl w' ↦ c.claim_watch j w' same | inr w' ↦ omega (arith, w'.1, (c.claim_mark j).2) ]
    ];
    claim_flight = λ e w same. elim (t.claims e) [
      | inr j ↦ omega (arith, flight_now w, j.now)
      | inl j ↦ elim (t.course.flights w).0 [ inl w' ↦ c.claim_flight j w' same | inr n ↦ absurd (new_known V n.1.new (c.claim_mark j).3 same) ]
    ];
    asked_now = λ {a = a} e. elim (t.holds e) [
      | kept old _ ↦ omega (arith, c.asked_now old, t.course.later)
      | renewing b q is old new now _ ↦ let same : a ≡ b = cc in omega (arith, ap (λ (z : Asked). z.at) same, t.course.later)
      | renewed a z x is old soon _ _ _ _ ↦ cc
      | granted m i is old stands early soon _ _ _ ↦ cc
    ];
    asked_watch = λ {a = a} e w same. elim (t.holds e) [
      | kept old _ ↦ elim (t.watches w) [ inl w' ↦ c.asked_watch old w' same | inr w' ↦ omega (arith, w'.1, c.asked_now old) ]
      | renewing b q is old new now _ ↦ let eq : a ≡ b = cc in absurd (new_known V new (known_watch_back w) (sym (rw eq at same)))
      | renewed b z x is old soon _ _ _ _ ↦ cc
      | granted m i is old stands early soon _ _ _ ↦ cc
    ];
    flight_time = λ w. (omega (arith, flight_now w, t.course.later), (t.course.flights w).1);
    fresh_block = λ w b same. elim (t.course.blocks b) [
      | inr l ↦ l.gone w same
      | inl b' ↦ elim (t.course.flights w).0 [ inl w' ↦ c.fresh_block w' b' same | inr n ↦ new_known V n.1.new (c.known_block b') same ]
    ];
    fresh_watch = λ w e same. elim (t.course.flights w).0 [
      | inr n ↦ new_known V n.1.new (known_watch_back e) same
      | inl w' ↦ elim (t.watches e) [ inl e' ↦ c.fresh_watch w' e' same | inr e' ↦ c.fresh_block w' e'.0 same ]
    ];
    known_flight = λ {f} w. elim (t.course.flights w).0 [ inl w' ↦ known_on f.body.mark (c.known_flight w') | inr n ↦ n.1.used ];
    known_block = λ {y = y} b. known_on y.mark (known_block_back b);
    known_watch = λ {y = y} e. known_on y.mark (known_watch_back e);
    terms = λ {r} {x} a. elim (alive_back r x a) [
      | inl b ↦ elim (t.tops r) [ inl same ↦ omega (arith, c.terms b) | inr g ↦ g.terms b ]
      | inr n ↦ rw n.1 at n.0.term
    ];
    named_held = λ e. elim (t.names e) [ inl n ↦ n.1 (c.named_held n.0) | inr n ↦ n ];
    held_named = λ e late. elim (t.holds e) [
      | kept old n ↦ n late (c.held_named old (omega arith))
      | renewing a q _ old _ _ n ↦ n (c.held_named old (omega arith))
      | renewed a z x _ old soon _ _ _ n ↦ n
      | granted m i _ old stands early soon is top n ↦ n
    ];
    down_idle = λ e. t.course.downs e;
  }
