-- Each move of a room is a step, so it keeps the core, and forgets no grant.
use Rattle.std.proofs.Common.{◌≡◌, ℕ, ◌+◌, ◌*◌, ◌<◌, ◌≤◌, true, false, ◌⊎◌, Some, None, Option, sym, refl, ap, ◌∙◌, subst, inl, inr, arith}
use Rattle.std.proofs.lemmas.Bool.{cases_eq, eq-eqb, ne_eqb}
use Rattle.format.specs.declared.lease.Kind.TheVariants.{Free}
use Rattle.format.specs.declared.lease.Mark.{Mark}
use Rattle.format.specs.declared.lease.LeaseRecord.{LeaseRecord}
use Rattle.machine.specs.declared.types.Flight.{Flight}
use Rattle.machine.specs.declared.settings.Settings.{Settings}
use Rattle.format.specs.declared.events.LogEntry.{LogEntry}
use Rattle.format.specs.declared.events.Event.TheVariants as events
use Rattle.machine.specs.View.{watching, Asked, Place, idle, claimed, held, View, In, claim_record}
use Rattle.machine.specs.Moves.{vacant, Turn, Unlogged, Logged, note, Unsent, Sent, Open, Still, Unwritten, Changed, Move}
use Rattle.machine.proofs.Core.{landed, Ours, Core}
use Rattle.machine.proofs.Step.{Issued, Landed, Claims, kept, renewing, renewed, granted, Granting, Step}
use Rattle.machine.proofs.StepKeeps.{step_keeps}
use Rattle.machine.proofs.Quiet.{quiet_core}
use Rattle.machine.proofs.CoreFacts.{sole, hold_claim, open_vacant, open_unclaimed, only_claim}
use Rattle.machine.proofs.TurnEffects.{is_held, vacant_held, back, calm_course, turn_course, turn_watches, turn_claims, turn_holds, turn_names, unsent, sent, sent_new, sent_used, over_step, over_seats, begun_step}

module _ {s : Settings} {V W : View} (c : Core s V) where
  -- a host notes the record that it read
  notes_step : {h r : ℕ} {x : LeaseRecord} → Turn V W h r (watching x V.tick) → Unlogged V W → Unsent V W → vacant (V.seat h r) ≡ true → V.block r ≡ Some x → Step s V W
  notes_step t l n v b = record {
    course = turn_course t c (unsent n);
    watches = λ e. elim (back t e) [ inl j ↦ inr (cc, cc) | inr j ↦ inl j.1 ];
    claims = turn_claims t refl;
    holds = turn_holds t refl l;
    tops = λ q. inl (l.tops q);
    names = turn_names t (vacant_held _ v) l;
  }

  -- a claim is given up
  leaves_step : {h r k i : ℕ} {m : Mark} → Turn V W h r idle → Unlogged V W → Unsent V W → V.seat h r ≡ claimed m k i → Step s V W
  leaves_step t l n v = record {
    course = turn_course t c (unsent n);
    watches = turn_watches t refl;
    claims = turn_claims t refl;
    holds = turn_holds t refl l;
    tops = λ q. inl (l.tops q);
    names = turn_names t (ap is_held v) l;
  }

  -- a host claims over an open record
  claims_step : {h r : ℕ} {m : Mark} {x : LeaseRecord} → Turn V W h r (claimed m (x.term + 1) V.tick) → Unlogged V W → Sent V W h r (claim_record r m (x.term + 1))
      → vacant (V.seat h r) ≡ true → V.block r ≡ Some x → Open s V h r x → Step s V W
  claims_step {h} {r} {m} {x} t l n v b o = record {
    course = turn_course t c (sent n (record {
      new = sent_new n;
      used = sent_used n t.gens;
      ours = λ i e late. absurd (elim (back t e) [ inl j ↦ cc | inr j ↦ open_vacant c (sym (ap V.block i) ∙ b) (rw i at o) j.1 (omega arith) ]);
      alone = λ i e late b'. open_unclaimed c (sym (ap V.block i) ∙ b) (rw i at o) e late b';
      term = omega (arith, c.terms (landed b), l.tops r);
    }));
    watches = turn_watches t refl;
    claims = λ {h = g} {r = q} {k = k} {i = i} {m = m'} e. elim (back t e) [ inr j ↦ inl j.1 | inl j ↦ inr (new g q m' k i j.0 j.1 j.2) ];
    holds = turn_holds t refl l;
    tops = λ q. inl (l.tops q);
    names = turn_names t (vacant_held _ v) l;
  }
    where
      new : (g q : ℕ) (m' : Mark) (k i : ℕ) → g ≡ h → q ≡ r → claimed m (x.term + 1) V.tick ≡ claimed m' k i → Claims V W g q m' k i
      new g q m' k i eg eq e =
          let em : m ≡ m' = cc in
          let ek : x.term + 1 ≡ k = cc in
          let ei : V.tick ≡ i = cc in
          rw (eg, eq, ← em, ← ek, ← ei)
          (record { owner = n.owner; generation = n.generation ∙ sym (t.gens h); new = sent_new n; used = sent_used n t.gens; now = refl; above = omega (arith, c.terms (landed b), l.tops r) })

  -- what a holder issues: no claim stands, and nobody else holds
  holder_issues : {h r k u : ℕ} {x : Place} {b : LeaseRecord} {p : Option Asked} → Turn V W h r x → Sent V W h r b → V.seat h r ≡ held k u p → V.tick < u → W.top b.resource ≤ b.term
      → ((g k' u' : ℕ) (p' : Option Asked) → g ≡ h → x ≡ held k' u' p' → Ours W g k' b) → Issued s V W b
  holder_issues {h} {r} t n v soon term own = record {
    new = sent_new n;
    used = sent_used n t.gens;
    ours = λ {g = g} {r = q} {k = k'} {u = u'} {p = p'} i e late. let to : q ≡ r = sym i ∙ n.there in elim (back t e) [
      | inl j ↦ own g k' u' p' j.0 j.2
      | inr j ↦ absurd (j.0 (sole c (rw to at j.1) (omega arith) v soon) to)
    ];
    alone = λ {r = q} i e late b'. let to : q ≡ r = sym i ∙ n.there in hold_claim c v soon (rw to at e) (landed (rw to at b'));
    term = term;
  }

  -- a holder asks for a renewal
  renews_step : {h r k u : ℕ} {m : Mark} {p : Option Asked} → Turn V W h r (held k u (Some (record { mark = m; at = V.tick }))) → Unlogged V W → Sent V W h r (claim_record r m k)
      → V.seat h r ≡ held k u p → V.tick < u → Step s V W
  renews_step {h} {r} {k} {u} {m} {p} t l n v soon = record {
    course = turn_course t c (sent n (holder_issues t n v soon (omega (arith, c.hold_top v soon, l.tops r))
        (λ g k' u' p' e d. record { kind = refl; owner = n.owner ∙ sym e; generation = n.generation ∙ sym (t.gens h) ∙ ap W.gen (sym e); term = cc })));
    watches = turn_watches t refl;
    claims = turn_claims t refl;
    holds = λ {r = q} e. elim (back t e) [
      | inl j ↦ renewing (record { mark = m; at = V.tick }) p (cc) (cc) (sent_new n) refl (λ o. l.names q ∙ o)
      | inr j ↦ kept j.1 (λ _ o. l.names q ∙ o)
    ];
    tops = λ q. inl (l.tops q);
    names = λ {r = q} {h = g} e. inl (
      sym (l.names q) ∙ e,
      λ o. elim (t.seats g q) [
        | inl j ↦ (k, Some (record { mark = m; at = V.tick }), (cc))
        | inr j ↦ (o.0, o.1, j.1 ∙ o.2)
      ],
    );
  }

  -- a holder releases
  releases_step : {h r k u at : ℕ} {m : Mark} {p : Option Asked} → Turn V W h r idle → Logged V W (note at events.Released h r k 0) → Sent V W h r (record { kind = Free; resource = r; mark = m; term = k })
      → V.seat h r ≡ held k u p → V.tick < u → Step s V W
  releases_step {r = r} t l n v soon =
      over_step l (turn_course t c (sent n (holder_issues t n v soon (omega (arith, c.hold_top v soon, l.tops r)) (λ g k' u' p' e d. cc))))
      (λ q. refl) (λ q. refl) (over_seats t)

  -- a lease is over
  expires_step : {h r k u at : ℕ} {p : Option Asked} → Turn V W h r idle → Logged V W (note at events.Expired h r k 0) → Unsent V W → V.seat h r ≡ held k u p → Step s V W
  expires_step t l n v = over_step l (turn_course t c (unsent n)) (λ q. refl) (λ q. refl) (over_seats t)

  -- a renewal is confirmed
  confirms_step : {h r k u at : ℕ} {a : Asked} {x : LeaseRecord} → Turn V W h r (held k (a.at + s.lease) None) → Logged V W (note at events.Renewed h r k (a.at + s.lease)) → Unsent V W
      → V.seat h r ≡ held k u (Some a) → V.tick < u → V.block r ≡ Some x → x.mark ≡ a.mark → Step s V W
  confirms_step {u = u} {a = a} {x = x} t l n v soon b m =
      begun_step l c t n (λ q. refl) (λ g q. refl) (λ g k' u' p e late. sole c e late v soon)
      (λ here g q k' u' p d f y. renewed a u x (cc) (cc) soon (cc) (cc) m (cc))
      (λ q. inl (omega arith))

  -- a claim is granted
  grants_step : {h r k i at : ℕ} {m : Mark} → Turn V W h r (held k (i + s.lease) None) → Logged V W (note at events.Granted h r k (i + s.lease)) → Unsent V W
      → V.seat h r ≡ claimed m k i → V.block r ≡ Some (claim_record r m k) → i + (2 * s.delay + 1) ≤ V.tick → V.tick < i + s.lease → Step s V W
  grants_step {h} {r} {k} {i} {m = m} t l n v b early soon =
      begun_step l c t n (λ q. refl) (λ g q. refl) (λ g k' u' p e late. absurd (hold_claim c e late v (landed b)))
      (λ here g q k' u' p d f y. granted m i (cc) (cc) (let o : claim_record r m k ≡ claim_record q m k' = cc in cc) early soon (cc) (let w = top in cc) (cc))
      (λ q. elim (cases_eq q r) [
        | inl d ↦ inr (rw d granting)
        | inr d ↦ inl (omega (arith, rw (ne_eqb r q (λ y. d (sym y))) at (l.tops q)))
      ])
    where
      above : V.top r < k
      above = c.claim_top v (landed b)

      top : W.top r ≡ k
      top = omega (arith, above, rw (eq-eqb r r refl) at (l.tops r))

      granting : Granting V W r
      granting = record {
        above = omega arith;
        vacant = λ e late. hold_claim c e late v (landed b);
        claims = λ {g = g} {m = m'} e a. elim (back t e) [
          | inl j ↦ cc
          | inr j ↦ j.0 (sym (c.claim_mark j.1).0 ∙ ap (λ (z : LeaseRecord). z.mark.owner) (only_claim c v b early soon a) ∙ (c.claim_mark v).0) refl
        ];
        terms = λ a. omega (arith, top, ap (λ (z : LeaseRecord). z.term) (only_claim c v b early soon a));
      }

  -- a host goes down
  crashes_step : {h at : ℕ} → W.tick ≡ V.tick → ((g : ℕ) → W.gen g ≡ V.gen g)
      → ((g q : ℕ) → ((g ≡ h) × (W.seat g q ≡ idle)) ⊎ ((g ≡ h → ⊥) × (W.seat g q ≡ V.seat g q) × (W.up g ≡ V.up g)))
      → Unwritten V W → Logged V W (note at events.Crashed h 0 0 0) → Unsent V W → Step s V W
  crashes_step {h} now gens seats blocks l n =
      over_step l
      (calm_course c (unsent n) now gens blocks (λ g q e. elim (seats g q) [ inl d ↦ d.1 | inr d ↦ d.1 ∙ c.down_idle (sym d.2 ∙ e) ]))
      (λ q. refl) (λ q. refl)
      (λ g q. elim (seats g q) [ inl d ↦ inl (d.1, eq-eqb h g (sym d.0)) | inr d ↦ inr (d.1, ne_eqb h g (λ y. d.0 (sym y))) ])

  -- nobody takes a turn: time passes, a write lands or is lost, a block is spoiled, a host comes back
  fades_step : V.tick ≤ W.tick
      → ((f : Flight) → In f W.flights → In f V.flights × (W.tick ≤ f.issued.0 + s.delay))
      → ((h r : ℕ) → W.seat h r ≡ V.seat h r)
      → ((r : ℕ) (y : LeaseRecord) → W.block r ≡ Some y → (V.block r ≡ Some y) ⊎ Landed V W r y)
      → ((h : ℕ) → W.up h ≡ false → V.up h ≡ false)
      → ((h : ℕ) → ((W.gen h ≡ V.gen h) × (V.stamp h ≤ W.stamp h)) ⊎ ((V.gen h < W.gen h) × ((r : ℕ) → W.seat h r ≡ idle)))
      → Unlogged V W → Step s V W
  fades_step later flights seats blocks ups ages l = record {
    course = record {
      later = later;
      ages = ages;
      flights = λ {f} i. (inl (flights f i).0, (flights f i).1);
      blocks = λ {r = q} {y = y} e. blocks q y e;
      downs = λ {h} {r} e. seats h r ∙ c.down_idle (ups h e);
    };
    watches = λ {g} {q} e. inl (sym (seats g q) ∙ e);
    claims = λ {h = g} {r = q} e. inl (sym (seats g q) ∙ e);
    holds = λ {h = g} {r = q} e. kept (sym (seats g q) ∙ e) (λ _ m. l.names q ∙ m);
    tops = λ q. inl (l.tops q);
    names = λ {r = q} {h = g} e. inl (sym (l.names q) ∙ e, λ o. (o.0, o.1, seats g q ∙ o.2));
  }

  -- the same of what keeps the hosts and the time
  still_step : Still V W → ((f : Flight) → In f W.flights → In f V.flights)
      → ((r : ℕ) (y : LeaseRecord) → W.block r ≡ Some y → (V.block r ≡ Some y) ⊎ Landed V W r y) → Step s V W
  still_step t sub blocks =
      fades_step (omega arith) (λ f i. (sub f i, omega (arith, t.tick, (c.flight_time (sub f i)).1))) t.seats blocks
      (λ h e. sym (t.ups h) ∙ e) (λ h. inl (t.gens h, omega arith)) t.unlogged

  -- where every block reads as before
  as_before : Unwritten V W → (r : ℕ) (y : LeaseRecord) → W.block r ≡ Some y → (V.block r ≡ Some y) ⊎ Landed V W r y
  as_before blocks r y e = inl (sym (blocks r) ∙ e)

  -- a write lands
  lands_step : {f : Flight} → In f V.flights → W.tick ≡ V.tick → ((g : ℕ) → W.up g ≡ V.up g) → ((g : ℕ) → W.gen g ≡ V.gen g) → ((g : ℕ) → W.stamp g ≡ V.stamp g)
      → ((g q : ℕ) → W.seat g q ≡ V.seat g q) → Unlogged V W
      → ((e : Flight) → In e W.flights → In e V.flights × (e.body.mark ≡ f.body.mark → ⊥))
      → ((q : ℕ) → ((q ≡ f.body.resource) × (W.block q ≡ Some f.body)) ⊎ (W.block q ≡ V.block q)) → Step s V W
  lands_step {f} was now ups gens stamps seats l flights blocks =
      still_step (record { tick = now; ups = ups; gens = gens; stamps = stamps; seats = seats; unlogged = l }) (λ e i. (flights e i).0) (λ q y e. elim (blocks q) [
        | inr d ↦ inl (sym d ∙ e)
        | inl d ↦ let is : f.body ≡ y = cc in
            rw (← is) (inr (record { flight = f; was = was; is = refl; there = sym d.0; gone = λ {f = e'} i m. (flights e' i).1 m }))
      ])

  -- a host that was down comes back
  returns_step : {h : ℕ} → V.up h ≡ false → W.up h ≡ true → W.gen h ≡ V.gen h + 1 → Changed V W h → W.tick ≡ V.tick
      → ((g q : ℕ) → W.seat g q ≡ V.seat g q) → Unwritten V W → Unlogged V W → W.flights ≡ V.flights → Step s V W
  returns_step {h} down up next others now seats blocks l n =
      fades_step (omega arith) (λ f i. let j = subst (In f) n i in (j, omega arith)) seats (as_before blocks)
      (λ g e. elim (cases_eq g h) [ inl d ↦ cc | inr d ↦ sym (others.ups g d) ∙ e ])
      (λ g. elim (cases_eq g h) [
        | inl d ↦ inr (omega (arith, ap V.gen d, ap W.gen d), λ q. seats g q ∙ c.down_idle (ap V.up d ∙ down))
        | inr d ↦ inl (others.gens g d, omega arith)
      ]) l

-- the core is kept, and no grant is forgotten
abbrev Keeps : Settings → View → View → Type 0
Keeps s V W = Core s W × ((q : ℕ) → V.top q ≤ W.top q)

-- a step does so
stepped : {s : Settings} {V W : View} → Core s V → Step s V W → Keeps s V W
stepped c t = (step_keeps c t, λ q. elim (t.tops q) [ inl same ↦ omega arith | inr g ↦ g.above ])

-- so every move does
pub move_keeps : (s : Settings) (V W : View) → Core s V → Move s V W → Keeps s V W
move_keeps s V W c (Move.rests e) = (subst (Core s) (sym e) c, λ q. let n = ap (λ (X : View). X.top q) e in omega arith)
move_keeps s V W c (Move.sets a t n blocks) = stepped c (still_step c t (λ f i. subst (In f) n i) (as_before c blocks))
move_keeps s V W c (Move.opens a t n known old) = (
  quiet_core s W
      (record {
        seats = λ h r. t.seats h r ∙ a.seats h r;
        flights = λ {f} i. a.flights (subst (In f) n i);
        tops = λ r. t.unlogged.tops r ∙ a.tops r;
        names = λ r. t.unlogged.names r ∙ a.names r;
      })
      (λ r y e. rw (known r y e) (inl (omega arith))),
  λ q. omega arith,
)
move_keeps s V W c (Move.passes now ups gens stamps seats l blocks flights others) =
    stepped c (fades_step c (omega arith) flights seats (as_before c blocks) (λ h e. sym (ups h) ∙ e) (λ h. inl (gens h, omega arith)) l)
move_keeps s V W c (Move.loses f t g blocks) = stepped c (still_step c t (λ e i. (g.flights e i).0) (as_before c blocks))
move_keeps s V W c (Move.lands f t g blocks) = stepped c (lands_step c g.was t.tick t.ups t.gens t.stamps t.seats t.unlogged g.flights blocks)
move_keeps s V W c (Move.spoils r t n blocks) = stepped c (still_step c t (λ f i. subst (In f) n i) (λ q y e. elim (blocks q) [ inl d ↦ cc | inr d ↦ inl (sym d ∙ e) ]))
move_keeps s V W c (Move.notes h r x t l n v b) = stepped c (notes_step c t l n v b)
move_keeps s V W c (Move.claims h r m x t l n v b o) = stepped c (claims_step c t l n v b o)
move_keeps s V W c (Move.grants h r m k i t l n v b early soon) = stepped c (grants_step c t l n v b early soon)
move_keeps s V W c (Move.renews h r m k u p t l n v soon) = stepped c (renews_step c t l n v soon)
move_keeps s V W c (Move.confirms h r k u a x t l n v soon b m) = stepped c (confirms_step c t l n v soon b m)
move_keeps s V W c (Move.releases h r m k u p t l n v soon) = stepped c (releases_step c t l n v soon)
move_keeps s V W c (Move.leaves h r m k i t l n v early) = stepped c (leaves_step c t l n v)
move_keeps s V W c (Move.expires h r k u p t l n v over) = stepped c (expires_step c t l n v)
move_keeps s V W c (Move.crashes h up down now gens seats blocks l n) = stepped c (crashes_step c now gens seats blocks l n)
move_keeps s V W c (Move.returns h down up next used others now seats blocks l n) = stepped c (returns_step c down up next others now seats blocks l n)

-- no move forgets a grant
logged_top : (V W : View) (e : LogEntry) → Logged V W e → (q : ℕ) → V.top q ≤ W.top q
logged_top V W e l q = omega (arith, l.tops q)

-- nor does what logs nothing
unlogged_top : (V W : View) → Unlogged V W → (q : ℕ) → V.top q ≤ W.top q
unlogged_top V W l q = omega (arith, l.tops q)

-- so no move does
pub move_tops : (s : Settings) (V W : View) → Move s V W → (q : ℕ) → V.top q ≤ W.top q
move_tops s V W (Move.rests e) q = let n = ap (λ (X : View). X.top q) e in omega arith
move_tops s V W (Move.sets a t n blocks) q = unlogged_top V W t.unlogged q
move_tops s V W (Move.opens a t n known old) q = unlogged_top V W t.unlogged q
move_tops s V W (Move.passes now ups gens stamps seats l blocks flights others) q = unlogged_top V W l q
move_tops s V W (Move.loses f t g blocks) q = unlogged_top V W t.unlogged q
move_tops s V W (Move.lands f t g blocks) q = unlogged_top V W t.unlogged q
move_tops s V W (Move.spoils r t n blocks) q = unlogged_top V W t.unlogged q
move_tops s V W (Move.notes h r x t l n v b) q = unlogged_top V W l q
move_tops s V W (Move.claims h r m x t l n v b o) q = unlogged_top V W l q
move_tops s V W (Move.grants h r m k i t l n v b early soon) q = logged_top V W _ l q
move_tops s V W (Move.renews h r m k u p t l n v soon) q = unlogged_top V W l q
move_tops s V W (Move.confirms h r k u a x t l n v soon b m) q = logged_top V W _ l q
move_tops s V W (Move.releases h r m k u p t l n v soon) q = logged_top V W _ l q
move_tops s V W (Move.leaves h r m k i t l n v early) q = unlogged_top V W l q
move_tops s V W (Move.expires h r k u p t l n v over) q = logged_top V W _ l q
move_tops s V W (Move.crashes h up down now gens seats blocks l n) q = logged_top V W _ l q
move_tops s V W (Move.returns h down up next used others now seats blocks l n) q = unlogged_top V W l q
