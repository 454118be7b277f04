-- What a turn of a host, and an entry of the log, leave of the rest.
use Rattle.std.proofs.Common.{◌≡◌, ℕ, ◌<◌, ◌≤◌, Bool, true, false, ◌&&◌, eqb, ◌⊎◌, Some, None, Option, sym, refl, ap, ◌∙◌, subst, inl, inr, arith}
use Rattle.std.proofs.lemmas.Bool.{cases_eq, eq-eqb, ne_eqb}
use Rattle.std.proofs.lemmas.Bool.Decides.{nat_tests}
use Rattle.format.specs.declared.lease.Mark.{Mark}
use Rattle.format.specs.declared.lease.LeaseRecord.{LeaseRecord}
use Rattle.machine.specs.declared.types.Flight.{Flight}
use Rattle.machine.specs.declared.settings.Settings.{Settings}
use Rattle.format.specs.declared.events.LogEntry.{LogEntry}
use Rattle.machine.specs.View.{watching, Asked, Place, idle, claimed, held, Owner, nobody, lasting, View, In, ended, grant_of}
use Rattle.machine.specs.Soundness.{begins, ends}
use Rattle.machine.specs.Moves.{vacant, Turn, Unlogged, Logged, Unsent, Sent}
use Rattle.machine.proofs.Core.{Known, New, HeldUntil, Core}
use Rattle.machine.proofs.Flights.{in_push}
use Rattle.machine.proofs.Logs.{ended_back}
use Rattle.machine.proofs.Step.{Issued, Claims, Holding, Granting, kept, Course, Step}

-- which kind a seat is of
abbrev pub is_watching : Place → Bool
is_watching (watching x t) = true
is_watching _ = false

-- a claim
abbrev pub is_claimed : Place → Bool
is_claimed (claimed m k i) = true
is_claimed _ = false

-- a lease
abbrev pub is_held : Place → Bool
is_held (held k u p) = true
is_held _ = false

-- a vacant seat holds nothing
pub vacant_held : (x : Place) → vacant x ≡ true → is_held x ≡ false
vacant_held (held k u p) e = sym e
vacant_held _ e = refl

-- an entry that ends none leaves who is named
unended : (e : LogEntry) (r : ℕ) (o : Owner) → ((h : ℕ) → ends e h r ≡ false) → ended e r o ≡ o
unended e r nobody n = refl
unended e r (lasting h u) n = rw (n h)

-- an entry that begins no lease of r ends one, or none
past : {V W : View} {e : LogEntry} → Logged V W e → (r : ℕ) → begins e r ≡ false → W.named r ≡ ended e r (V.named r)
past {V} {e = e} l r b = l.names r ∙ rw b

-- what is in flight was so before or was issued just now, and no stamp is forgotten
pub record Sending (s : Settings) (V W : View) : Type 0 where
  pub stamps : (g : ℕ) → V.stamp g ≤ W.stamp g
  pub flights : (f : Flight) → In f W.flights → In f V.flights ⊎ ((f.issued.0 ≡ V.tick) × Issued s V W f.body)

-- nothing was issued
pub unsent : {s : Settings} {V W : View} → Unsent V W → Sending s V W
unsent u = record { stamps = λ g. omega arith; flights = λ f i. inl (subst (In f) u.flights i) }

-- one record was issued
module _ {V W : View} {h r : ℕ} {b : LeaseRecord} (u : Sent V W h r b) where
  -- its stamp is used, and no stamp is forgotten
  pub sent_stamps : (g : ℕ) → V.stamp g ≤ W.stamp g
  sent_stamps g = elim (cases_eq g h) [
    | inl d ↦ omega (arith, u.stamp, u.used, ap V.stamp d, ap W.stamp d)
    | inr d ↦ omega arith
  ]

  -- what is in flight with it
  pub sent : {s : Settings} → Issued s V W b → Sending s V W
  sent {s} n = record {
    stamps = sent_stamps;
    flights = λ f i. elim (in_push f _ V.flights (subst (In f) u.flights i)) [
      | inl j ↦ inl j
      | inr j ↦ rw j (inr (refl, n))
    ];
  }

  -- its mark is new
  pub sent_new : New V b.mark
  sent_new = rw u.owner (u.generation, omega arith)

  -- and used from now on
  pub sent_used : ((g : ℕ) → W.gen g ≡ V.gen g) → Known W b.mark
  sent_used gens = rw u.owner (inr (u.generation ∙ sym (gens h), omega arith))

-- where the tick, the generations and the blocks stay
pub calm_course : {s : Settings} {V W : View} → Core s V → Sending s V W → W.tick ≡ V.tick → ((g : ℕ) → W.gen g ≡ V.gen g) → ((q : ℕ) → W.block q ≡ V.block q)
    → ((g q : ℕ) → W.up g ≡ false → W.seat g q ≡ idle) → Course s V W
calm_course c n now gens blocks downs = record {
  later = omega arith;
  ages = λ g. inl (gens g, n.stamps g);
  flights = λ {f} i. elim (n.flights f i) [ inl j ↦ (inl j, omega arith) | inr j ↦ (inr j, omega arith) ];
  blocks = λ {r = q} e. inl (sym (blocks q) ∙ e);
  downs = λ {h} {r} e. downs h r e;
}

module _ {V W : View} {h r : ℕ} {x : Place} (t : Turn V W h r x) where
  -- a seat after a turn is the one that the turn left, or as it was
  pub back : {g q : ℕ} {z : Place} → W.seat g q ≡ z → ((g ≡ h) × (q ≡ r) × (x ≡ z)) ⊎ ((g ≡ h → q ≡ r → ⊥) × (V.seat g q ≡ z))
  back {g} {q} {z} e = elim (t.seats g q) [
    | inl n ↦ inl (n.0, n.1, cc)
    | inr n ↦ inr (n.0, sym n.1 ∙ e)
  ]

  -- time, hosts, writes in flight and blocks after it: a host that is down has no seat
  pub turn_course : {s : Settings} → Core s V → Sending s V W → Course s V W
  turn_course c n = calm_course c n t.tick t.gens t.blocks (λ g q e. elim (t.seats g q) [
    | inl i ↦ let a = t.awake in let b = t.ups g in cc
    | inr i ↦ i.1 ∙ c.down_idle (sym (t.ups g) ∙ e)
  ])

  -- where the turn leaves no watch, none is new
  pub turn_watches : is_watching x ≡ false → {g q i : ℕ} {y : LeaseRecord} → W.seat g q ≡ watching y i → (V.seat g q ≡ watching y i) ⊎ ((V.block q ≡ Some y) × (i ≡ V.tick))
  turn_watches k e = elim (back e) [ inl n ↦ cc | inr n ↦ inl n.1 ]

  -- where it leaves no claim, none is new
  pub turn_claims : is_claimed x ≡ false → {g q k i : ℕ} {m : Mark} → W.seat g q ≡ claimed m k i → (V.seat g q ≡ claimed m k i) ⊎ Claims V W g q m k i
  turn_claims k e = elim (back e) [ inl n ↦ cc | inr n ↦ inl n.1 ]

  -- where it leaves no held seat, and logs nothing, none is new
  pub turn_holds : {s : Settings} → is_held x ≡ false → Unlogged V W → {g q k u : ℕ} {p : Option Asked} → W.seat g q ≡ held k u p → Holding s V W g q k u p
  turn_holds i l {q = q} e = elim (back e) [ inl n ↦ cc | inr n ↦ kept n.1 (λ _ m. l.names q ∙ m) ]

  -- where the seat was not held, and nothing is logged, whoever is named was so before
  pub turn_names : is_held (V.seat h r) ≡ false → Unlogged V W → {q g u : ℕ} → W.named q ≡ lasting g u → ((V.named q ≡ lasting g u) × (HeldUntil V g q u → HeldUntil W g q u)) ⊎ HeldUntil W g q u
  turn_names i l {q} {g} e = inl (
    sym (l.names q) ∙ e,
    λ o. elim (t.seats g q) [ inl n ↦ cc | inr n ↦ (o.0, o.1, n.1 ∙ o.2) ],
  )

-- leases end: each seat is idle now and its lease ended by the entry, or it is as it was
pub over_step : {s : Settings} {V W : View} {e : LogEntry} → Logged V W e → Course s V W → ((q : ℕ) → begins e q ≡ false) → ((q : ℕ) → grant_of e q ≡ 0)
    → ((g q : ℕ) → ((W.seat g q ≡ idle) × (ends e g q ≡ true)) ⊎ ((W.seat g q ≡ V.seat g q) × (ends e g q ≡ false))) → Step s V W
over_step {V = V} {e = e} l course none ungranted seats = record {
  course = course;
  watches = λ {g} {q} y. elim (seats g q) [ inl d ↦ cc | inr d ↦ inl (sym d.0 ∙ y) ];
  claims = λ {h = g} {r = q} y. elim (seats g q) [ inl d ↦ cc | inr d ↦ inl (sym d.0 ∙ y) ];
  holds = λ {h = g} {r = q} {u = u} y. elim (seats g q) [ inl d ↦ cc | inr d ↦ kept (sym d.0 ∙ y) (λ _ m. past l q (none q) ∙ rw (m, d.1)) ];
  tops = λ q. inl (omega arith);
  names = λ {r = q} {h = g} {u} y. let b = ended_back e q (V.named q) g u (sym (past l q (none q)) ∙ y) in inl (b.0, λ o. elim (seats g q) [ inl d ↦ cc | inr d ↦ (o.0, o.1, d.0 ∙ o.2) ]);
}

-- so for a turn that empties a seat, and an entry that says so
pub over_seats : {V W : View} {h r : ℕ} → Turn V W h r idle → (g q : ℕ) → ((W.seat g q ≡ idle) × ((eqb h g && eqb r q) ≡ true)) ⊎ ((W.seat g q ≡ V.seat g q) × ((eqb h g && eqb r q) ≡ false))
over_seats {h = h} {r = r} t g q = elim (t.seats g q) [
  | inl n ↦ inl (cc, both n.0 n.1)
  | inr n ↦ inr (n.1, other n.0)
]
  where
    both : g ≡ h → q ≡ r → (eqb h g && eqb r q) ≡ true
    both a b = grind (arith, nat_tests)

    other : (g ≡ h → q ≡ r → ⊥) → (eqb h g && eqb r q) ≡ false
    other n = grind (arith, nat_tests)

-- a lease begins, of a resource that no other host held
pub begun_step : {s : Settings} {V W : View} {e : LogEntry} {k : ℕ} → Logged V W e → Core s V → (t : Turn V W e.host e.resource (held k e.until.0 None)) → Unsent V W
    → ((q : ℕ) → begins e q ≡ eqb e.resource q) → ((g q : ℕ) → ends e g q ≡ false)
    → ((g k u : ℕ) (p : Option Asked) → V.seat g e.resource ≡ held k u p → V.tick < u → g ≡ e.host)
    → (W.named e.resource ≡ lasting e.host e.until.0 → (g q k' u' : ℕ) (p : Option Asked) → g ≡ e.host → q ≡ e.resource → held k e.until.0 None ≡ held k' u' p → Holding s V W g q k' u' p)
    → ((q : ℕ) → (W.top q ≡ V.top q) ⊎ Granting V W q) → Step s V W
begun_step {s} {V} {W} {e} {k} l c t n is not only new tops = record {
  course = turn_course t c (unsent n);
  watches = turn_watches t refl;
  claims = turn_claims t refl;
  holds = λ {h = g} {r = q} {k = k'} {u = u'} {p = p} y. elim (back t y) [
    | inl j ↦ new here g q k' u' p j.0 j.1 j.2
    | inr j ↦ kept j.1 (λ late m. elim (cases_eq q e.resource) [
      | inl i ↦ absurd (j.0 (only g k' u' p (rw i at j.1) (omega arith)) i)
      | inr i ↦ others q i ∙ m
    ])
  ];
  tops = tops;
  names = λ {r = q} {h = g} y. elim (cases_eq q e.resource) [
    | inl i ↦ inr (k, None, (let w = t.here in let w' = here in cc))
    | inr i ↦ inl (sym (others q i) ∙ y, λ d. elim (t.seats g q) [ inl j ↦ absurd (i j.1) | inr j ↦ (d.0, d.1, j.1 ∙ d.2) ])
  ];
}
  where
    here : W.named e.resource ≡ lasting e.host e.until.0
    here = let r = e.resource in l.names r ∙ rw (is r ∙ eq-eqb r r refl)

    others : (q : ℕ) → (q ≡ e.resource → ⊥) → W.named q ≡ V.named q
    others q d = past l q (is q ∙ ne_eqb e.resource q (λ y. d (sym y))) ∙ unended e q (V.named q) (λ g. not g q)
