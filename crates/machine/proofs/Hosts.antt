-- What crash, restart and set clock keep.
use Rattle.std.proofs.Common.{◌≡◌, ℕ, ◌+◌, ◌<◌, ◌≤◌, true, false, not, ltb, leb, ◌⊎◌, List, [], length, get_or, replicate, set, ℤ, refl, ap, ◌∙◌, inl, inr, arith}
use Rattle.std.proofs.lemmas.List.{length-set, length-replicate, get_or-replicate, get_or_past, get_or-set_same, get_or-set_other}
use Rattle.std.proofs.lemmas.Bool.{not-false, ltb-true, leb-false, cases_lt}
use Rattle.machine.specs.declared.types.Host.{Host}
use Rattle.machine.specs.declared.types.Seat.{Seat}
use Rattle.machine.specs.declared.types.Seat.TheVariants as seats
use Rattle.format.specs.declared.events.Event.TheVariants as events
use Rattle.machine.specs.Room.{World, no_host, host_at, seat_at, at_room, with_host, noted}
use Rattle.machine.specs.Outcomes.{Outcome}
use Rattle.machine.specs.Setup.{clock_tests, set_clock_call, with_offset}
use Rattle.machine.specs.Hosts.{restart_tests, crash_tests, crash_call, restart_call, taken_down, brought_up}
use Rattle.machine.specs.Steps.{plain_entry}
use Rattle.machine.specs.View.{view}
use Rattle.machine.specs.Moves.{Move}
use Rattle.machine.proofs.Places.{at_set, set_same}
use Rattle.machine.proofs.Tests.{unless_elim}
use Rattle.machine.proofs.Shape.{Whole, Seated, Shape, Inv, Kept, seat_in}
use Rattle.machine.proofs.Kept.{kept_by, kept_same, logged_of, shut_untouched}

-- there are at most 16 hosts
few_of : (w : World) (h : ℕ) → Inv w → not (ltb h w.room.settings.hosts) ≡ false → h < 16
few_of w h i e = omega (arith, i.shape.seated.bounded.hosts_high, ltb-true h w.room.settings.hosts (not-false (ltb h w.room.settings.hosts) e))

-- a row of idle seats
pub idle_row : (q : ℕ) → get_or (replicate 8 seats.Idle) q seats.Idle ≡ seats.Idle
idle_row q = elim (cases_lt q 8) [ inl l ↦ get_or-replicate 8 q seats.Idle seats.Idle l | inr l ↦ get_or_past (replicate 8 seats.Idle) q seats.Idle l ]

-- host h is x now
module _ (w : World) (h : ℕ) (x : Host) (i : Inv w) (few : h < 16) where
  abbrev hosted : List Host
  hosted = set w.room.hosts h x

  there : h < length w.room.hosts
  there = omega arith

  -- a part of this host, of each other one, and one that stays as it was
  here : {A : Type 0} (f : Host → A) → f (get_or hosted h no_host) ≡ f x
  here f = ap f (get_or-set_same w.room.hosts h x no_host there)

  else : {A : Type 0} (f : Host → A) (g : ℕ) → (g ≡ h → ⊥) → f (get_or hosted g no_host) ≡ f (host_at w.room g)
  else f g n = ap f (get_or-set_other w.room.hosts h g x no_host n)

  same : {A : Type 0} (f : Host → A) → f x ≡ f (host_at w.room h) → (g : ℕ) → f (get_or hosted g no_host) ≡ f (host_at w.room g)
  same f = set_same f w.room.hosts h x no_host there

  -- the hosts and perhaps other rows keep their shape
  hosted_seated : (rows : List (List Seat)) → length rows ≡ 16 → ((g : ℕ) → g < 16 → length (get_or rows g []) ≡ 8) → (1 ≤ x.generation) × (x.generation < 65536)
      → ((g q : ℕ) → Whole (get_or hosted g no_host).offset (seat_in rows g q))
      → ((g q : ℕ) → (seat_in rows g q ≡ seats.Idle) ⊎ ((g < w.room.settings.hosts) × (q < w.room.settings.resources))) → Seated w.room.settings hosted rows
  hosted_seated rows long row age whole spare = record {
    bounded = i.shape.seated.bounded;
    hosts_long = length-set w.room.hosts h x ∙ i.shape.seated.hosts_long;
    rows_long = long;
    row = row;
    aged = λ g n. elim (at_set w.room.hosts h x no_host there g) [
      | inl d ↦ omega (arith, ap (λ (y : Host). y.generation) d.1)
      | inr d ↦ omega (arith, ap (λ (y : Host). y.generation) d.1, i.shape.seated.aged g n)
    ];
    whole = whole;
    spare = spare;
  }

  hosted_shape : (1 ≤ x.generation) × (x.generation < 65536) → ((g q : ℕ) → Whole (get_or hosted g no_host).offset (seat_at w.room g q)) → Shape (at_room w (with_host w.room h x))
  hosted_shape age whole = let s = i.shape in
      record { seated = hosted_seated w.room.seats s.seated.rows_long s.seated.row age whole s.seated.spare; flying = s.flying; blocks = s.blocks; closed = s.closed }

-- host h goes down
module _ (w : World) (h : ℕ) (i : Inv w) (few : h < 16) where
  abbrev crashed : World
  crashed = noted (at_room w (taken_down w.room h)) (plain_entry w.room events.Crashed h 0 0)

  -- as a host it is the same, but for being down
  abbrev downed : Host
  downed = record { offset = (host_at w.room h).offset; up = false; generation = (host_at w.room h).generation; stamp = (host_at w.room h).stamp }

  offset : (g : ℕ) → (host_at crashed.room g).offset ≡ (host_at w.room g).offset
  offset = same w h downed i few (λ x. x.offset) refl

  row_cases : (g : ℕ) → ((g ≡ h) × (get_or crashed.room.seats g [] ≡ replicate 8 seats.Idle)) ⊎ ((g ≡ h → ⊥) × (get_or crashed.room.seats g [] ≡ get_or w.room.seats g []))
  row_cases = at_set w.room.seats h (replicate 8 seats.Idle) [] (omega arith)

  -- each seat is one of its own, which is idle, or as it was
  seat_cases : (g q : ℕ) → ((g ≡ h) × (seat_at crashed.room g q ≡ seats.Idle)) ⊎ ((g ≡ h → ⊥) × (seat_at crashed.room g q ≡ seat_at w.room g q))
  seat_cases g q = elim (row_cases g) [
    | inl d ↦ inl (d.0, rw d.1 (idle_row q))
    | inr d ↦ inr (d.0, rw d.1)
  ]

  -- a crash is a move
  crashed_kept : w.room.opened ≡ true → (host_at w.room h).up ≡ true → leb (length w.log) w.room.logged ≡ false → Kept w crashed
  unfolding view
  crashed_kept o up room = let s = i.shape.seated in kept_by w crashed i
      (record {
        seated = hosted_seated w h downed i few crashed.room.seats (length-set w.room.seats h (replicate 8 seats.Idle) ∙ s.rows_long)
            (λ g n. elim (row_cases g) [ inl d ↦ ap length d.1 ∙ length-replicate 8 seats.Idle | inr d ↦ ap length d.1 ∙ s.row g n ]) (s.aged h few)
            (λ g q. elim (seat_cases g q) [
              | inl d ↦ rw d.1 tt
              | inr d ↦ rw (offset g, d.1) (s.whole g q)
            ])
            (λ g q. elim (seat_cases g q) [ inl d ↦ inl d.1 | inr d ↦ elim (s.spare g q) [ inl n ↦ inl (d.1 ∙ n) | inr n ↦ inr n ] ]);
        flying = i.shape.flying;
        blocks = i.shape.blocks;
        closed = λ e. cc;
      }) refl
      (Move.crashes h up (here w h downed i few (λ x. x.up)) refl (same w h downed i few (λ x. x.generation) refl)
      (λ g q. elim (seat_cases g q) [
        | inl d ↦ inl (d.0, rw d.1)
        | inr d ↦ inr (d.0, rw (offset g, d.1), else w h downed i few (λ x. x.up) g d.0)
      ])
      (λ q. refl) (logged_of w crashed (plain_entry w.room events.Crashed h 0 0) room refl) (record { flights = refl; stamps = same w h downed i few (λ x. x.stamp) refl }))

-- crash keeps a room
pub crash_kept : (w : World) (h : ℕ) → Inv w → Kept w (crash_call w h).world
crash_kept w h i =
    let m = w.room in
    unless_elim (λ (y : Outcome (Unit {0})). Kept w y.world) w _ (crash_tests w h) (λ _. kept_same w i)
    (λ f. crashed_kept w h i (few_of w h i f.1.0) (not-false m.opened f.0) (not-false (host_at m h).up f.1.1.0) f.1.1.1.0)

-- a host comes back in a new generation
restarted_kept : (w : World) (h : ℕ) (i : Inv w) → h < 16 → (host_at w.room h).up ≡ false → leb 65535 (host_at w.room h).generation ≡ false → Kept w (at_room w (brought_up w.room h))
unfolding view
restarted_kept w h i few down young =
    let m = w.room in
    let x : Host = record { offset = (host_at m h).offset; up = true; generation = (host_at m h).generation + 1; stamp = 0 } in
    let offset = same w h x i few (λ y. y.offset) refl in
    kept_by w (at_room w (brought_up m h)) i
    (hosted_shape w h x i few (omega arith, omega (arith, leb-false 65535 (host_at m h).generation young)) (λ g q. rw (offset g) (i.shape.seated.whole g q))) refl
    (Move.returns h down (here w h x i few (λ y. y.up)) (here w h x i few (λ y. y.generation)) (here w h x i few (λ y. y.stamp))
    (record { ups = else w h x i few (λ y. y.up); gens = else w h x i few (λ y. y.generation); stamps = else w h x i few (λ y. y.stamp) }) refl
    (λ g q. rw (offset g)) (λ q. refl) (record { names = λ q. refl; tops = λ q. refl }) refl)

-- restart keeps a room
pub restart_kept : (w : World) (h : ℕ) → Inv w → Kept w (restart_call w h).world
restart_kept w h i =
    unless_elim (λ (y : Outcome (Unit {0})). Kept w y.world) w _ (restart_tests w.room h) (λ _. kept_same w i)
    (λ f. restarted_kept w h i (few_of w h i f.1.0) f.1.1.0 f.1.1.1.0)

-- a clock is set in a closed room
clocked_kept : (w : World) (h : ℕ) (z : ℤ) (i : Inv w) → h < 16 → w.room.opened ≡ false → Kept w (at_room w (with_offset w.room h z))
unfolding view
clocked_kept w h z i few shut =
    let m = w.room in
    let x : Host = record { offset = z; up = (host_at m h).up; generation = (host_at m h).generation; stamp = (host_at m h).stamp } in
    let v = at_room w (with_offset m h z) in
    let none = (i.shape.closed shut).seats in
    kept_by w v i (hosted_shape w h x i few (i.shape.seated.aged h few) (λ g q. rw (none g q) tt)) refl
    (Move.sets (shut_untouched w (i.shape.closed shut))
    (record {
      tick = refl;
      ups = same w h x i few (λ y. y.up) refl;
      gens = same w h x i few (λ y. y.generation) refl;
      stamps = same w h x i few (λ y. y.stamp) refl;
      seats = λ g q. rw (none g q);
      unlogged = record { names = λ q. refl; tops = λ q. refl };
    })
    refl (λ q. refl))

-- set clock keeps a room
pub set_clock_kept : (w : World) (h : ℕ) (z : ℤ) → Inv w → Kept w (set_clock_call w h z).world
set_clock_kept w h z i =
    unless_elim (λ (y : Outcome (Unit {0})). Kept w y.world) w _ (clock_tests w.room h z) (λ _. kept_same w i)
    (λ f. clocked_kept w h z i (few_of w h i f.1.0) f.0)
