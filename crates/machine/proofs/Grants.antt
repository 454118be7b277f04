-- What check and confirm keep, and what a grant says.
use Rattle.std.proofs.Common.{◌≡◌, ℕ, ◌+◌, ◌*◌, ◌<◌, ◌≤◌, false, eqb, leb, List, [], ◌∷◌, length, set, pos, ◌+ℤ◌, Some, None, Ok, Err, Option, refl, ap, ◌∙◌, subst, arith}
use lib.Signed.{lt_z, le_z}
use Rattle.std.proofs.lemmas.Int.{ints}
use Rattle.std.proofs.lemmas.Bool.{cond_both, cond-true, eq-eqb, and_from, both_ways}
use Rattle.format.specs.declared.lease.Kind.TheVariants.{Owned}
use Rattle.format.specs.declared.lease.Kind.{Kind}
use Rattle.format.specs.declared.lease.LeaseRecord.{LeaseRecord}
use Rattle.machine.specs.declared.types.Checked.{Checked}
use Rattle.machine.specs.declared.types.Confirmed.{Confirmed}
use Rattle.machine.specs.declared.types.Pending.{Pending}
use Rattle.disk.specs.declared.fault.Fault.{Fault}
use Rattle.machine.specs.declared.types.Seat.TheVariants as seats
use Rattle.format.specs.declared.events.Event.TheVariants as events
use Rattle.format.specs.declared.events.LogEntry.{LogEntry}
use Rattle.disk.specs.declared.fault.Refusal.TheVariants.{WrongSeat, NotLanded}
use Rattle.machine.specs.declared.types.Checked.TheVariants as checks
use Rattle.machine.specs.declared.types.Confirmed.TheVariants as confirms
use Rattle.machine.specs.Room.{World, host_at, seat_at, reading}
use Rattle.machine.specs.Outcomes.{Outcome, log_test, standing, area_test, refused}
use Rattle.machine.specs.Seats.{hold, Hold, claim, Claim, same_record, same_mark, same_kind}
use Rattle.machine.specs.Claiming.{check_tests, check_wait, stolen, checked, check_call}
use Rattle.machine.specs.Steps.{lease_entry, read_at, reading_block}
use Rattle.machine.specs.Holding.{is_own, late, confirmed, confirm_call}
use Rattle.machine.specs.View.{Asked, held, ticked, View, view, claim_record}
use Rattle.machine.specs.Moves.{Logged, Move, note}
use Rattle.machine.proofs.Core.{landed}
use Rattle.machine.proofs.CoreFacts.{hold_claim}
use Rattle.machine.proofs.Tests.{unless_elim, by_option}
use Rattle.machine.proofs.Same.{record_same, mark_same}
use Rattle.machine.proofs.Times.{Ticks, log_ticked}
use Rattle.machine.proofs.Shape.{Inv, Kept, Stand, stands}
use Rattle.machine.proofs.Kept.{kept_same, kept_from, logged_of, read_view, read_kept, reading_elim}
use Rattle.machine.proofs.Seats.{claim_is, hold_is, turned, seat_turn, logged_turn}

-- r was granted under term t: above every grant so far, with nobody holding it, and not forgotten from now on
pub record Grant (V W : View) (r t : ℕ) : Type 0 where
  pub above : V.top r < t
  pub vacant : (g l u : ℕ) (p : Option Asked) → V.seat g r ≡ held l u p → V.tick < u → ⊥
  pub noted : t ≤ W.top r

-- the room is kept, and this is so of what is answered
pub record Answers {A : Type 0} (Said : View → View → A → Type 0) (w : World) (o : Outcome A) : Type 0 where
  pub kept : Kept w o.world
  pub said : (x : A) → o.answer ≡ Ok x → Said (view w) (view o.world) x

-- a refusal says nothing
refusal : {A : Type 0} (Said : View → View → A → Type 0) (w v : World) (e : Fault) → Kept w v → Answers Said w (record { answer = Err e; world = v })
refusal Said w v e n = record { kept = n; said = λ x i. cc }

-- an answer says what is so of it
answered : {A : Type 0} (Said : View → View → A → Type 0) (w v : World) (x : A) → Kept w v → Said (view w) (view v) x → Answers Said w (record { answer = Ok x; world = v })
answered Said w v x n s = record { kept = n; said = λ y e. let same : x ≡ y = cc in subst (Said (view w) (view v)) same s }

-- the block is read, and this is so of what follows from the record
reading_answers : {A : Type 0} (Said : View → View → A → Type 0) (w : World) (h r : ℕ) (judge : World → LeaseRecord → Outcome A) → Inv w → Stand w h r
    → (Inv (read_at w r) → (x : LeaseRecord) → (view (read_at w r)).block r ≡ Some x → Answers Said (read_at w r) (judge (read_at w r) x)) → Answers Said w (reading_block w r judge)
reading_answers Said w h r judge i t next =
    let v = read_at w r in
    let n = read_kept w r i t.opened in
    reading_elim w r (Answers Said w) judge t.opened t.resource (λ e. refusal Said w v e n)
    (λ x b. let k = next n.inv x b in record {
      kept = kept_from w v _ refl (read_view w r) k.kept;
      said = λ y e. subst (λ (V : View). Said V (view (judge v x).world) y) (read_view w r) (k.said y e);
    })

-- a check grants r
abbrev pub Granting : ℕ → View → View → Checked → Type 0
Granting r V W (checks.Granted t u) = Grant V W r t
Granting r V W checks.Stolen = Unit {0}

-- check, once the block is read
checked_answers : (w : World) (h r : ℕ) (x : Claim) (y : LeaseRecord) → Inv w → Stand w h r → claim (seat_at w.room h r) ≡ Some x → leb (length w.log) w.room.logged ≡ false
    → lt_z (reading w.room h) (x.issued +ℤ pos (check_wait w.room)) ≡ false → le_z (x.issued +ℤ pos w.room.settings.lease) (reading w.room h) ≡ false
    → (view w).block r ≡ Some y → Answers (Granting r) w (checked h r x w y)
unfolding view
checked_answers w h r x y i t c room early soon b =
    let m = w.room in
    let o = (host_at m h).offset in
    let L = m.settings.lease in
    let n = ticked o x.issued in
    let p = claim_is o (seat_at m h r) x c (i.shape.seated.whole h r) in
    let e : LogEntry = lease_entry m events.Granted h r x.term (x.issued +ℤ pos L) in
    let until : ticked o (x.issued +ℤ pos L) ≡ n + L = omega (arith, ints) in
    let told = log_ticked o (x.issued +ℤ pos L) (omega (arith, ints)) ∙ until in
    let x' = seats.Held x.term (record { 0 = x.issued +ℤ pos L }) None in
    let v : World = turned w h r x' m.hosts m.flights (m.logged + 1) (set w.log m.logged e) in
    let waited : n + (2 * m.settings.delay + 1) ≤ m.tick = omega (arith, ints) in
    let lasts : m.tick < n + L = omega (arith, ints) in
    cond_both (same_record y (claim_record r x.mark x.term)) _ (record { answer = Ok checks.Stolen; world = stolen w h r }) (Answers (Granting r) w)
    (λ same.
    let stands_there : (view w).block r ≡ Some (claim_record r x.mark x.term) = b ∙ ap {B = Option LeaseRecord} Some (record_same y (claim_record r x.mark x.term) same) in
    let grant : Grant (view w) (view v) r x.term = record {
      above = i.core.claim_top p.0 (landed stands_there);
      vacant = λ g l u a q late. hold_claim i.core q late p.0 (landed stands_there);
      noted = omega (arith, (logged_of w v e room refl).tops r, cond-true (eqb r r) x.term 0 (eq-eqb r r refl));
    } in
    answered (Granting r) w v _
    (logged_turn w h r x' i t (omega (arith, ints), p.2, p.3, tt) (rw until) e room
    (λ turn l u. Move.grants h r x.mark x.term n turn (subst (Logged (view w) (view v)) (ap (note m.tick events.Granted h r x.term) told) l) u p.0 stands_there waited lasts))
    grant)
    (λ _. answered (Granting r) w (stolen w h r) checks.Stolen
    (seat_turn w h r seats.Idle i t tt refl (λ turn l u. Move.leaves h r x.mark x.term n turn l u p.0 waited))
    tt)

-- check keeps a room, and grants only what is vacant, under a term above all others
pub check_answers : (w : World) (h r : ℕ) (area : List ℕ) → Inv w → Answers (Granting r) w (check_call w h r area)
unfolding check_call
check_answers w h r area i =
    let m = w.room in
    let P = Answers (Granting r) w in
    let same : (e : Fault) → P (record { answer = Err e; world = w }) = λ e. refusal (Granting r) w w e (kept_same w i) in
    unless_elim P w _ (area_test area ∷ standing m h r) (λ _. same _)
    (λ f. let t = stands w h r f.1 in by_option P (claim (seat_at m h r)) (refused w WrongSeat 0) _ (λ _. same _)
    (λ x c. unless_elim P w _ (check_tests w h x.issued) (λ _. same _)
    (λ g. reading_answers (Granting r) w h r (checked h r x) i t (λ j y b. checked_answers (read_at w r) h r x y j t c g.0 g.1.0 g.1.1.0 b))))

-- a confirm never answers stolen
abbrev pub Unstolen : View → View → Confirmed → Type 0
Unstolen V W confirms.Renewed = Unit {0}
Unstolen V W confirms.Stolen = ⊥

-- confirm, once the block is read: it holds a record of the host itself
confirmed_answers : (w : World) (h r : ℕ) (x : Hold) (a : Pending) (y : LeaseRecord) → Inv w → Stand w h r → hold (seat_at w.room h r) ≡ Some x → x.pending ≡ Some a → leb (length w.log) w.room.logged ≡ false
    → le_z x.until (reading w.room h) ≡ false → (view w).block r ≡ Some y → Answers Unstolen w (confirmed h r x a w y)
unfolding view
confirmed_answers w h r x a y i t c pending room soon b =
    let m = w.room in
    let o = (host_at m h).offset in
    let L = m.settings.lease in
    let n = ticked o a.issued.0 in
    let p = hold_is o (seat_at m h r) x c (i.shape.seated.whole h r) in
    let whole : Ticks o a.issued.0 = rw pending at p.4 in
    let was : (view w).seat h r ≡ held x.term (ticked o x.until) (Some (record { mark = a.mark; at = n })) = p.0 ∙ rw pending in
    let e : LogEntry = lease_entry m events.Renewed h r x.term (a.issued.0 +ℤ pos L) in
    let until : ticked o (a.issued.0 +ℤ pos L) ≡ n + L = omega (arith, ints) in
    let told = log_ticked o (a.issued.0 +ℤ pos L) (omega (arith, ints)) ∙ until in
    let x' = seats.Held x.term (record { 0 = a.issued.0 +ℤ pos L }) None in
    let v : World = turned w h r x' m.hosts m.flights (m.logged + 1) (set w.log m.logged e) in
    let late : m.tick < ticked o x.until = omega (arith, ints) in
    let ours = i.core.hold_ours was late (landed b) in
    cond_both (same_mark y.mark a.mark) _ _ (Answers Unstolen w)
    (λ same. answered Unstolen w v confirms.Renewed
    (logged_turn w h r x' i t (omega (arith, ints), p.2, p.3, tt) (rw until) e room
    (λ turn l u. Move.confirms h r x.term (ticked o x.until) (record { mark = a.mark; at = n }) y turn (subst (Logged (view w) (view v)) (ap (note m.tick events.Renewed h r x.term) told) l) u
    was late b (mark_same y.mark a.mark same)))
    tt)
    (λ _. cond_both (is_own m h y) (refused w NotLanded 0) (record { answer = Ok confirms.Stolen; world = stolen w h r }) (Answers Unstolen w)
    (λ _. refusal Unstolen w w _ (kept_same w i))
    (λ other. absurd (both_ways (is_own m h y) other
    (and_from (same_kind y.kind Owned) _ (ap (λ (z : Kind). same_kind z Owned) ours.kind) (and_from (eqb y.mark.owner h) (eqb y.mark.generation (host_at m h).generation) (eq-eqb _ _ ours.owner) (eq-eqb _ _ ours.generation))))))

-- confirm keeps a room, and never answers stolen
pub confirm_answers : (w : World) (h r : ℕ) (area : List ℕ) → Inv w → Answers Unstolen w (confirm_call w h r area)
unfolding confirm_call
confirm_answers w h r area i =
    let m = w.room in
    let P = Answers Unstolen w in
    let same : (e : Fault) → P (record { answer = Err e; world = w }) = λ e. refusal Unstolen w w e (kept_same w i) in
    unless_elim P w _ (area_test area ∷ standing m h r) (λ _. same _)
    (λ f. let t = stands w h r f.1 in by_option P (hold (seat_at m h r)) (refused w WrongSeat 0) _ (λ _. same _)
    (λ x c. by_option P x.pending (refused w WrongSeat 0) _ (λ _. same _)
    (λ a q. unless_elim P w _ (log_test w ∷ late m h x ∷ []) (λ _. same _)
    (λ g. reading_answers Unstolen w h r (confirmed h r x a) i t (λ j y b. confirmed_answers (read_at w r) h r x a y j t c q g.0 g.1.0 b)))))
