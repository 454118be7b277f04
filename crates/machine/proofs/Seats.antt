-- Seats as places, and a turn of a host at its seat.
use Rattle.std.proofs.Common.{◌≡◌, ℕ, ◌+◌, ◌<◌, ◌≤◌, true, false, leb, ◌⊎◌, List, [], length, get_or, set, ℤ, Some, sym, refl, ap, ◌∙◌, subst, inl, inr, arith}
use Rattle.std.proofs.lemmas.List.{length-set, get_or-set_same, get_or-set_other}
use Rattle.std.proofs.lemmas.Bool.{leb-false}
use Rattle.machine.specs.declared.types.Seat.{Seat}
use Rattle.machine.specs.declared.types.Seat.TheVariants as seats
use Rattle.machine.specs.declared.types.Host.{Host}
use Rattle.machine.specs.declared.types.Flight.{Flight}
use Rattle.format.specs.declared.lease.Kind.{Kind}
use Rattle.format.specs.declared.lease.LeaseRecord.{LeaseRecord}
use Rattle.format.specs.declared.events.LogEntry.{LogEntry}
use Rattle.machine.specs.Room.{Room, World, no_host, host_at, seat_at}
use Rattle.machine.specs.Steps.{next_mark, issued}
use Rattle.machine.specs.Seats.{is_vacant, hold, Hold, claim, Claim, watched, Watch}
use Rattle.machine.specs.View.{watching, Place, claimed, held, placed, asked, ticked, view}
use Rattle.machine.specs.Moves.{vacant, Turn, Unlogged, Logged, Unsent, Sent, Move}
use Rattle.machine.proofs.Flights.{in_push, apart_push}
use Rattle.machine.proofs.Places.{at_set, set_same, seat_set}
use Rattle.machine.proofs.StepKeeps.{new_known}
use Rattle.machine.proofs.Times.{Ticks}
use Rattle.machine.proofs.Shape.{Whole, WholePending, Seated, Flying, Shape, Inv, Kept, Stand, few_hosts, few_resources}
use Rattle.machine.proofs.Kept.{kept_by, logged_of}

-- a vacant seat is a vacant place
pub vacant_placed : (o : ℤ) (s : Seat) → is_vacant s ≡ true → vacant (placed o s) ≡ true
vacant_placed o seats.Idle e = refl
vacant_placed o (seats.Watching seen since) e = refl
vacant_placed o (seats.Claimed mark term issued) e = e
vacant_placed o (seats.Held term until pending) e = e

-- what a seat's view says of it
pub watched_is : (o : ℤ) (s : Seat) (x : Watch) → watched s ≡ Some x → Whole o s → (placed o s ≡ watching x.seen (ticked o x.since)) × Ticks o x.since
watched_is o (seats.Watching seen since) x e n = let P : Watch → Type 0 = λ y. (watching seen (ticked o since.0) ≡ watching y.seen (ticked o y.since)) × Ticks o y.since in subst P (cc) (refl, n)
watched_is o _ x e n = cc

-- so for a claim
pub claim_is : (o : ℤ) (s : Seat) (x : Claim) → claim s ≡ Some x → Whole o s → (placed o s ≡ claimed x.mark x.term (ticked o x.issued)) × Ticks o x.issued × (1 ≤ x.term) × (x.term < 1000000)
claim_is o (seats.Claimed mark term issued) x e n = let P : Claim → Type 0 = λ y. (claimed mark term (ticked o issued.0) ≡ claimed y.mark y.term (ticked o y.issued)) × Ticks o y.issued × (1 ≤ y.term) × (y.term < 1000000) in subst P (cc) (refl, n.0, n.1, n.2)
claim_is o _ x e n = cc

-- so for a held seat
pub hold_is : (o : ℤ) (s : Seat) (x : Hold) → hold s ≡ Some x → Whole o s → (placed o s ≡ held x.term (ticked o x.until) (asked o x.pending)) × Ticks o x.until × (1 ≤ x.term) × (x.term < 1000000) × WholePending o x.pending
hold_is o (seats.Held term until pending) x e n = let P : Hold → Type 0 = λ y. (held term (ticked o until.0) (asked o pending) ≡ held y.term (ticked o y.until) (asked o y.pending)) × Ticks o y.until × (1 ≤ y.term) × (y.term < 1000000) × WholePending o y.pending in subst P (cc) (refl, n.0, n.1, n.2, n.3)
hold_is o _ x e n = cc

-- the hosts are as they were, but for stamps that were used
pub record Steady (m : Room) (hosts : List Host) : Type 0 where
  pub long : length hosts ≡ 16
  pub offset : (g : ℕ) → (get_or hosts g no_host).offset ≡ (host_at m g).offset
  pub up : (g : ℕ) → (get_or hosts g no_host).up ≡ (host_at m g).up
  pub generation : (g : ℕ) → (get_or hosts g no_host).generation ≡ (host_at m g).generation

-- hosts that were not touched
steady : {w : World} → Shape w → Steady w.room w.room.hosts
steady s = record { long = s.seated.hosts_long; offset = λ g. refl; up = λ g. refl; generation = λ g. refl }

-- host h with one stamp more
abbrev one_stamp : Room → ℕ → Host
one_stamp m h = record { offset = (host_at m h).offset; up = (host_at m h).up; generation = (host_at m h).generation; stamp = (host_at m h).stamp + 1 }

-- there is such a host
there : {w : World} {h r : ℕ} → Inv w → Stand w h r → h < length w.room.hosts
there i t = omega arith

-- a stamp that is used changes nothing else of the hosts
module _ {w : World} (h : ℕ) (s : Shape w) (few : h < 16) where
  stamped : Steady w.room (set w.room.hosts h (one_stamp w.room h))
  stamped = let xs = w.room.hosts in let x = one_stamp w.room h in let l : h < length xs = omega arith in record {
    long = length-set xs h x ∙ s.seated.hosts_long;
    offset = set_same (λ (y : Host). y.offset) xs h x no_host l refl;
    up = set_same (λ (y : Host). y.up) xs h x no_host l refl;
    generation = set_same (λ (y : Host). y.generation) xs h x no_host l refl;
  }

  -- and no stamp falls
  pub no_stamp_falls : (g : ℕ) → (host_at w.room g).stamp ≤ (get_or (set w.room.hosts h (one_stamp w.room h)) g no_host).stamp
  no_stamp_falls g = elim (at_set w.room.hosts h (one_stamp w.room h) no_host (omega arith) g) [
    | inl e ↦ rw (e.1, e.0) (omega arith)
    | inr e ↦ rw e.1 (omega arith)
  ]

-- host h issues a record for r
module _ (w : World) (h r : ℕ) (kind : Kind) (term : ℕ) where
  abbrev body : LeaseRecord
  body = record { kind = kind; resource = r; mark = next_mark w.room h; term = term }

  -- with it, each write in flight is a record that the room writes, and their marks are apart
  sent_flying : Inv w → Stand w h r → leb 9999 (host_at w.room h).stamp ≡ false → 1 ≤ term → term < 1000000 → Flying w.room.settings (issued w.room h kind r term).flights
  unfolding view
  sent_flying i t spare low high = let few = few_hosts i.shape t in record {
    apart = apart_push _ w.room.flights i.shape.flying.apart (λ g n same. new_known (view w) (refl, omega arith) (i.core.known_flight n) (sym same));
    valid = λ f n. elim (in_push f _ w.room.flights n) [
      | inl o ↦ i.shape.flying.valid f o
      | inr o ↦ rw o (
        record {
          resource = few_resources i.shape t;
          owner = few;
          generation = (i.shape.seated.aged h few).1;
          stamp = omega (arith, leb-false 9999 (host_at w.room h).stamp spare);
          term = high;
          marked = inr ((i.shape.seated.aged h few).0, omega arith, low);
        },
        t.resource,
      )
    ];
  }

  -- so h has issued it
  sent_of : Inv w → Stand w h r → (v : World) → v.room.flights ≡ (issued w.room h kind r term).flights → v.room.hosts ≡ (issued w.room h kind r term).hosts → Sent (view w) (view v) h r body
  unfolding view
  sent_of i t v fs hs = let x = one_stamp w.room h in record {
    there = refl;
    owner = refl;
    generation = refl;
    stamp = refl;
    used = ap (λ (xs : List Host). (get_or xs h no_host).stamp) hs ∙ ap (λ (y : Host). y.stamp) (get_or-set_same w.room.hosts h x no_host (there i t));
    others = λ g n. ap (λ (xs : List Host). (get_or xs g no_host).stamp) hs ∙ ap (λ (y : Host). y.stamp) (get_or-set_other w.room.hosts h g x no_host n);
    flights = fs;
  }

-- the world after a turn of host h, which leaves x at its seat for r
module _ (w : World) (h r : ℕ) (x : Seat) where
  abbrev pub turned : List Host → List Flight → ℕ → List LogEntry → World
  turned hosts flights logged log = let m = w.room in record {
    room = record { settings = m.settings; disk = m.disk; opened = m.opened; tick = m.tick; hosts = hosts; seats = set m.seats h (set (get_or m.seats h []) r x); flights = flights; logged = logged };
    log = log;
  }

  module _ {p : Place} (i : Inv w) (t : Stand w h r) (whole : Whole (host_at w.room h).offset x) (is : placed (host_at w.room h).offset x ≡ p) where
    -- so it keeps a room if it is a move
    turn_kept : (hosts : List Host) (flights : List Flight) (logged : ℕ) (log : List LogEntry) → Steady w.room hosts → Flying w.room.settings flights
        → (Turn (view w) (view (turned hosts flights logged log)) h r p → Move w.room.settings (view w) (view (turned hosts flights logged log))) → Kept w (turned hosts flights logged log)
    unfolding view
    turn_kept hosts flights logged log y flying move = kept_by w v i (record {
      seated = record {
        bounded = s.bounded;
        hosts_long = y.long;
        rows_long = length-set m.seats h _ ∙ s.rows_long;
        row = λ g l. elim (at_set m.seats h (set (get_or m.seats h []) r x) [] there g) [
          | inl e ↦ ap length e.1 ∙ length-set (get_or m.seats h []) r x ∙ s.row h few
          | inr e ↦ ap length e.1 ∙ s.row g l
        ];
        aged = λ g l. omega arith;
        whole = λ g q. elim (seat g q) [
          | inl e ↦ rw (y.offset g, e.2, e.0) whole
          | inr e ↦ rw (y.offset g, e.1) (s.whole g q)
        ];
        spare = λ g q. elim (seat g q) [
          | inl e ↦ inr (omega arith, omega arith)
          | inr e ↦ elim (s.spare g q) [ inl n ↦ inl (e.1 ∙ n) | inr n ↦ inr n ]
        ];
      };
      flying = flying;
      blocks = i.shape.blocks;
      closed = λ e. cc;
    }) refl (move (record {
      tick = refl;
      awake = t.up;
      ups = y.up;
      gens = y.generation;
      here = elim (seat h r) [ inl e ↦ rw (y.offset h, e.2) is | inr e ↦ absurd (e.0 refl refl) ];
      seats = λ g q. elim (seat g q) [
        | inl e ↦ inl (e.0, e.1)
        | inr e ↦ inr (e.0, rw (y.offset g, e.1))
      ];
      blocks = λ q. refl;
    }))
      where
        m : Room
        m = w.room

        s : Seated m.settings m.hosts m.seats
        s = i.shape.seated

        v : World
        v = turned hosts flights logged log

        few : h < 16
        few = few_hosts i.shape t

        there : h < length m.seats
        there = omega arith

        seat : (g q : ℕ) → ((g ≡ h) × (q ≡ r) × (seat_at v.room g q ≡ x)) ⊎ ((g ≡ h → q ≡ r → ⊥) × (seat_at v.room g q ≡ seat_at m g q))
        seat g q = seat_set m h r x there (omega arith) g q

    -- only the seat changes
    pub seat_turn : (let v : World = turned w.room.hosts w.room.flights w.room.logged w.log in
        (Turn (view w) (view v) h r p → Unlogged (view w) (view v) → Unsent (view w) (view v) → Move w.room.settings (view w) (view v)) → Kept w v)
    unfolding view
    seat_turn move = turn_kept w.room.hosts w.room.flights w.room.logged w.log (steady i.shape) i.shape.flying
        (λ turn. move turn (record { names = λ q. refl; tops = λ q. refl }) (record { flights = refl; stamps = λ g. refl }))

    -- and it is logged
    pub logged_turn : (e : LogEntry) → leb (length w.log) w.room.logged ≡ false → (let v : World = turned w.room.hosts w.room.flights (w.room.logged + 1) (set w.log w.room.logged e) in
        (Turn (view w) (view v) h r p → Logged (view w) (view v) e → Unsent (view w) (view v) → Move w.room.settings (view w) (view v)) → Kept w v)
    unfolding view
    logged_turn e room move = let v = turned w.room.hosts w.room.flights (w.room.logged + 1) (set w.log w.room.logged e) in
        turn_kept w.room.hosts w.room.flights (w.room.logged + 1) (set w.log w.room.logged e) (steady i.shape) i.shape.flying
        (λ turn. move turn (logged_of w v e room refl) (record { flights = refl; stamps = λ g. refl }))

    -- the host issues a record
    module _ (kind : Kind) (term : ℕ) (spare : leb 9999 (host_at w.room h).stamp ≡ false) (low : 1 ≤ term) (high : term < 1000000) where
      pub sent_turn : (let m : Room = issued w.room h kind r term in let v : World = turned m.hosts m.flights w.room.logged w.log in
          (Turn (view w) (view v) h r p → Unlogged (view w) (view v) → Sent (view w) (view v) h r (body w h r kind term) → Move w.room.settings (view w) (view v)) → Kept w v)
      unfolding view
      sent_turn move = let m = issued w.room h kind r term in
          turn_kept m.hosts m.flights w.room.logged w.log (stamped h i.shape (few_hosts i.shape t)) (sent_flying w h r kind term i t spare low high)
          (λ turn. move turn (record { names = λ q. refl; tops = λ q. refl }) (sent_of w h r kind term i t (turned m.hosts m.flights w.room.logged w.log) refl refl))

      -- and it is logged
      pub sent_logged_turn : (e : LogEntry) → leb (length w.log) w.room.logged ≡ false → (let m : Room = issued w.room h kind r term in let v : World = turned m.hosts m.flights (w.room.logged + 1) (set w.log w.room.logged e) in
          (Turn (view w) (view v) h r p → Logged (view w) (view v) e → Sent (view w) (view v) h r (body w h r kind term) → Move w.room.settings (view w) (view v)) → Kept w v)
      unfolding view
      sent_logged_turn e room move = let m = issued w.room h kind r term in let v = turned m.hosts m.flights (w.room.logged + 1) (set w.log w.room.logged e) in
          turn_kept m.hosts m.flights (w.room.logged + 1) (set w.log w.room.logged e) (stamped h i.shape (few_hosts i.shape t)) (sent_flying w h r kind term i t spare low high)
          (λ turn. move turn (logged_of w v e room refl) (sent_of w h r kind term i t v refl refl))
