-- What a host's calls keep: try, renew, release, watch.
use Rattle.std.proofs.Common.{◌≡◌, ℕ, ◌+◌, true, leb, List, ◌∷◌, Some, refl, ◌∙◌, arith}
use Rattle.std.proofs.lemmas.Int.{ints}
use Rattle.std.proofs.lemmas.Bool.{cond_both, not-false, or_parts, leb-false}
use Rattle.format.specs.declared.lease.Kind.TheVariants.{Free, Owned}
use Rattle.format.specs.declared.lease.LeaseRecord.{LeaseRecord}
use Rattle.format.specs.declared.lease.Mark.{Mark}
use Rattle.machine.specs.declared.types.Tried.{Tried}
use Rattle.machine.specs.declared.types.Seat.TheVariants as seats
use Rattle.format.specs.declared.events.Event.TheVariants as events
use Rattle.disk.specs.declared.fault.Refusal.TheVariants.{WrongSeat}
use Rattle.machine.specs.Room.{World, host_at, seat_at, reading}
use Rattle.machine.specs.Outcomes.{Outcome, log_test, standing, refused}
use Rattle.machine.specs.Steps.{next_mark, issue_tests, plain_entry, read_at}
use Rattle.machine.specs.Seats.{is_vacant, hold, claim, watched, same_record}
use Rattle.machine.specs.Holding.{expire_tests, leave_tests, late, renew_call, release_call, watch_call}
use Rattle.machine.specs.Claiming.{try_tests, still_tests, claim_tests, watching, claiming, tried, try_call}
use Rattle.machine.specs.View.{asked, ticked, view}
use Rattle.machine.specs.Moves.{Move, Open, free, still}
use Rattle.machine.proofs.Tests.{unless_elim, by_kind, by_option}
use Rattle.machine.proofs.Same.{record_same}
use Rattle.machine.proofs.Times.{now_ticked}
use Rattle.machine.proofs.Shape.{Inv, Kept, Stand, stands}
use Rattle.machine.proofs.Kept.{kept_same, kept_from, read_view, read_kept, reading_elim}
use Rattle.machine.proofs.Seats.{vacant_placed, watched_is, claim_is, hold_is, seat_turn, logged_turn, sent_turn, sent_logged_turn}

-- a host notes the record that it read
watching_kept : (w : World) (h r : ℕ) (x : LeaseRecord) → Inv w → Stand w h r → is_vacant (seat_at w.room h r) ≡ true → (view w).block r ≡ Some x → Kept w (watching w h r x).world
unfolding view
watching_kept w h r x i t v b =
    let o = (host_at w.room h).offset in
    seat_turn w h r (seats.Watching x (record { 0 = reading w.room h })) i t
    (omega (arith, ints)) (rw (now_ticked o w.room.tick))
    (λ turn l u. Move.notes h r x turn l u (vacant_placed o (seat_at w.room h r) v) b)

-- a host claims over the record that it read
claiming_kept : (w : World) (h r : ℕ) (x : LeaseRecord) → Inv w → Stand w h r → is_vacant (seat_at w.room h r) ≡ true → (view w).block r ≡ Some x → Open w.room.settings (view w) h r x → Kept w (claiming w h r x).world
unfolding view
claiming_kept w h r x i t v b why =
    let m = w.room in
    let o = (host_at m h).offset in
    unless_elim (λ (y : Outcome Tried). Kept w y.world) w _ (claim_tests m h x) (λ _. kept_same w i)
    (λ f. let p = or_parts (leb 9999 (host_at m h).stamp) (leb 999999 x.term) f.1.0 in
    sent_turn w h r (seats.Claimed (next_mark m h) (x.term + 1) (record { 0 = reading m h })) i t
    (omega (arith, ints), omega arith, omega (arith, leb-false 999999 x.term p.1)) (rw (now_ticked o m.tick))
    Owned (x.term + 1) p.0 (omega arith) (omega (arith, leb-false 999999 x.term p.1))
    (λ turn l u. Move.claims h r (next_mark m h) x turn l u (vacant_placed o (seat_at m h r) v) b why))

-- try, once the block is read
tried_kept : (w : World) (h r : ℕ) (x : LeaseRecord) → Inv w → Stand w h r → is_vacant (seat_at w.room h r) ≡ true → (view w).block r ≡ Some x → Kept w (tried h r w x).world
unfolding view
tried_kept w h r x i t v b =
    let P : Outcome Tried → Type 0 = λ y. Kept w y.world in
    let m = w.room in
    let o = (host_at m h).offset in
    by_kind P x.kind (claiming w h r x) _ (λ e. claiming_kept w h r x i t v b (free e))
    (λ _. by_option P (watched (seat_at m h r)) (watching w h r x) _ (λ _. watching_kept w h r x i t v b)
    (λ y e. let p = watched_is o (seat_at m h r) y e (i.shape.seated.whole h r) in
    cond_both (same_record x y.seen) _ (watching w h r x) P
    (λ same. unless_elim P w (claiming w h r x) (still_tests m h y.since) (λ _. kept_same w i)
    (λ f. claiming_kept w h r x i t v b (still (ticked o y.since) (p.0 ∙ rw (record_same x y.seen same))
    (omega (arith, ints)))))
    (λ _. watching_kept w h r x i t v b)))

-- try keeps a room
pub try_kept : (w : World) (h r : ℕ) (area : List ℕ) → Inv w → Kept w (try_call w h r area).world
unfolding try_call
try_kept w h r area i =
    let P : Outcome Tried → Type 0 = λ y. Kept w y.world in
    unless_elim P w _ (try_tests w.room h r area) (λ _. kept_same w i)
    (λ f. let t = stands w h r (f.1.0, (f.1.1.0, (f.1.1.1.0, tt))) in
    let n = read_kept w r i t.opened in
    reading_elim w r P (tried h r) t.opened t.resource (λ _. n)
    (λ x b. kept_from w (read_at w r) _ refl (read_view w r) (tried_kept (read_at w r) h r x n.inv t (not-false (is_vacant (seat_at w.room h r)) f.1.1.1.1.0) b)))

-- renew keeps a room
pub renew_kept : (w : World) (h r : ℕ) → Inv w → Kept w (renew_call w h r).world
unfolding view
renew_kept w h r i =
    let P : Outcome Mark → Type 0 = λ y. Kept w y.world in
    let m = w.room in
    let o = (host_at m h).offset in
    unless_elim P w _ (standing m h r) (λ _. kept_same w i)
    (λ f. let t = stands w h r f in by_option P (hold (seat_at m h r)) (refused w WrongSeat 0) _ (λ _. kept_same w i)
    (λ x e. let p = hold_is o (seat_at m h r) x e (i.shape.seated.whole h r) in
    unless_elim P w _ (late m h x ∷ issue_tests m h) (λ _. kept_same w i)
    (λ g. sent_turn w h r (seats.Held x.term (record { 0 = x.until }) (Some (record { mark = next_mark m h; issued = record { 0 = reading m h } }))) i t
    (p.1, p.2, p.3, omega (arith, ints)) (rw (now_ticked o m.tick))
    Owned x.term g.1.1.0 p.2 p.3
    (λ turn l u. Move.renews h r (next_mark m h) x.term (ticked o x.until) (asked o x.pending) turn l u p.0 (omega (arith, ints))))))

-- release keeps a room
pub release_kept : (w : World) (h r : ℕ) → Inv w → Kept w (release_call w h r).world
unfolding view
release_kept w h r i =
    let P : Outcome Mark → Type 0 = λ y. Kept w y.world in
    let m = w.room in
    let o = (host_at m h).offset in
    unless_elim P w _ (standing m h r) (λ _. kept_same w i)
    (λ f. let t = stands w h r f in by_option P (hold (seat_at m h r)) (refused w WrongSeat 0) _ (λ _. kept_same w i)
    (λ x e. let p = hold_is o (seat_at m h r) x e (i.shape.seated.whole h r) in
    unless_elim P w _ (log_test w ∷ late m h x ∷ issue_tests m h) (λ _. kept_same w i)
    (λ g. sent_logged_turn w h r seats.Idle i t tt refl Free x.term g.1.1.1.0 p.2 p.3 (plain_entry m events.Released h r x.term) g.0
    (λ turn l u. Move.releases h r (next_mark m h) x.term (ticked o x.until) (asked o x.pending) turn l u p.0 (omega (arith, ints))))))

-- watch keeps a room
pub watch_kept : (w : World) (h r : ℕ) → Inv w → Kept w (watch_call w h r).world
unfolding view
watch_kept w h r i =
    let P : Outcome (Unit {0}) → Type 0 = λ y. Kept w y.world in
    let m = w.room in
    let o = (host_at m h).offset in
    unless_elim P w _ (standing m h r) (λ _. kept_same w i)
    (λ f. let t = stands w h r f in by_option P (hold (seat_at m h r)) _ _
    (λ _. by_option P (claim (seat_at m h r)) (refused w WrongSeat 0) _ (λ _. kept_same w i)
    (λ x e. let p = claim_is o (seat_at m h r) x e (i.shape.seated.whole h r) in
    unless_elim P w _ (leave_tests w h x) (λ _. kept_same w i)
    (λ g. seat_turn w h r seats.Idle i t tt refl (λ turn l u. Move.leaves h r x.mark x.term (ticked o x.issued) turn l u p.0
    (omega (arith, ints, i.shape.seated.bounded.lease_low))))))
    (λ x e. let p = hold_is o (seat_at m h r) x e (i.shape.seated.whole h r) in
    unless_elim P w _ (expire_tests w h x) (λ _. kept_same w i)
    (λ g. logged_turn w h r seats.Idle i t tt refl (plain_entry m events.Expired h r x.term) g.0
    (λ turn l u. Move.expires h r x.term (ticked o x.until) (asked o x.pending) turn l u p.0 (omega (arith, ints))))))
