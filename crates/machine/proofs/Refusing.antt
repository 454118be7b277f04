-- What a refused call leaves.
use Rattle.std.proofs.Common.{◌≡◌, ℕ, ◌+◌, Bool, not, ltb, ◌⊎◌, List, [], ◌∷◌, length, Some, None, Ok, Err, Option, Result, refl, ◌∙◌, inl, inr}
use Rattle.std.proofs.lemmas.Bool.{cond_both}
use Rattle.disk.specs.declared.fault.Fault.{Fault}
use Rattle.disk.specs.declared.fault.Refusal.{Refusal}
use Rattle.disk.specs.declared.fault.Refusal.TheVariants.{WrongSeat, NotOpen, NoSuchWrite, NotLanded}
use Rattle.disk.specs.Model.{DiskModel, access_answer, block, after_read, after_write}
use Rattle.format.specs.declared.lease.LeaseRecord.{LeaseRecord}
use Rattle.format.specs.declared.lease.Mark.{Mark}
use Rattle.format.specs.Blocks.{block_of, founding}
use Rattle.format.specs.Stores.{read_answer}
use Rattle.format.specs.declared.lease.Kind.TheVariants.{Owned}
use Rattle.machine.specs.declared.types.Answer.{Answer}
use Rattle.machine.specs.declared.types.Pending.{Pending}
use Rattle.machine.specs.Room.{World, at_room, seat_at, with_flights}
use Rattle.machine.specs.Outcomes.{Outcome, area_test, done, log_test, refused, standing, unless}
use Rattle.machine.specs.Seats.{Claim, Hold, claim, hold, same_mark, same_record, watched}
use Rattle.machine.specs.Setup.{clock_tests, formatting, open_call, set_clock_call, tick_call, tick_tests}
use Rattle.machine.specs.Claiming.{check_call, check_tests, checked, claim_tests, claiming, granted, still_tests, tried, try_call, try_tests, watching}
use Rattle.machine.specs.Holding.{confirm_call, confirmed, expire_tests, extended, is_own, late, leave_tests, release_call, renew_call, watch_call}
use Rattle.machine.specs.Writes.{find, removed, land_call, lose_call, spoil_call, spoil_tests, spoiled_block}
use Rattle.machine.specs.Hosts.{crash_call, crash_tests, restart_call, restart_tests}
use Rattle.machine.specs.Calls.{Call, answer_by, check, confirm, crash, land, lose, of_checked, of_confirmed, of_done, of_mark, of_tried, open_room, release, renew, restart, set_clock, spoil, tick, try, watch}
use Rattle.machine.specs.Steps.{issue_tests, read_at, written_at, judged_by, reading_block, writing_block}
use Rattle.machine.specs.Refusing.{SameBytes, Formatted, WithDisk, RefusedKeeps}
use Rattle.machine.proofs.Blocks.{Touched, touches, read_bytes, failed_bytes, writing_elim}
use Rattle.machine.proofs.Tests.{unless_elim, by_kind, by_option}

-- where this outcome is a refusal, its world is one of these
abbrev Leaves : {A : Type 0} → (World → Type 0) → Outcome A → Type 0
Leaves Q o = (f : Fault) → o.answer ≡ Err f → Q o.world

-- where it is a refusal, no more than tallies have changed
abbrev Tallied : {A : Type 0} → World → Outcome A → Type 0
Tallied w o = Leaves (WithDisk SameBytes w) o

-- an answer is no refusal
no_refusal : {A B : Type 0} {x : A} {f : Fault} → ◌≡◌ {A = Result A Fault} (Ok x) (Err f) → B
no_refusal e = cc

-- a refusal by a test leaves the world
module _ (Q : World → Type 0) (w : World) (here : Q w) where
  tested : {A : Type 0} (o : Outcome A) (xs : List (Bool × Refusal)) → Leaves Q o → Leaves Q (unless w xs o)
  tested o xs n = unless_elim (Leaves Q) w o xs (λ _ _ _. here) (λ _. n)

  -- what a try comes to, once the block is read
  tried_leaves : (h r : ℕ) (x : LeaseRecord) → Leaves Q (tried h r w x)
  tried_leaves h r x =
      let claims : Leaves Q (claiming w h r x) = tested _ (claim_tests w.room h x) (λ f e. no_refusal e) in
      by_kind (Leaves Q) x.kind (claiming w h r x) _ (λ _. claims)
      (λ _. by_option (Leaves Q) (watched (seat_at w.room h r)) (watching w h r x) _ (λ _ f e. no_refusal e)
      (λ y _. cond_both (same_record x y.seen) _ (watching w h r x) (Leaves Q) (λ _. tested (claiming w h r x) (still_tests w.room h y.since) claims) (λ _ f e. no_refusal e)))

  -- what a check comes to
  checked_leaves : (h r : ℕ) (y : Claim) (x : LeaseRecord) → Leaves Q (checked h r y w x)
  checked_leaves h r y x = cond_both (same_record x (record { kind = Owned; resource = r; mark = y.mark; term = y.term })) (granted w h r y) _ (Leaves Q) (λ _ f e. no_refusal e) (λ _ f e. no_refusal e)

  -- and a confirm
  confirmed_leaves : (h r : ℕ) (y : Hold) (p : Pending) (x : LeaseRecord) → Leaves Q (confirmed h r y p w x)
  confirmed_leaves h r y p x =
      cond_both (same_mark x.mark p.mark) (extended w h r y p) _ (Leaves Q) (λ _ f e. no_refusal e)
      (λ _. cond_both (is_own w.room h x) (refused w NotLanded 0) _ (Leaves Q) (λ _ f e. here) (λ _ f e. no_refusal e))

-- nothing has changed
unchanged : (w : World) → WithDisk SameBytes w w
unchanged w = (w.room.disk, record { height = refl; blocks = refl; homes = λ r. refl }, λ r. refl, refl)

-- a block is read, and what follows may refuse without a change
read_tallied : {A : Type 0} (w : World) (r : ℕ) (judge : World → LeaseRecord → Outcome A) → (WithDisk SameBytes w (read_at w r) → (x : LeaseRecord) → Tallied w (judge (read_at w r) x)) → Tallied w (reading_block w r judge)
read_tallied w r judge n = go (read_answer w.room.disk r 512)
  where
    read : WithDisk SameBytes w (read_at w r)
    read = let d = w.room.disk in (after_read d r 512, (touches d r 512 (block d r).bytes).same, read_bytes d r 512, refl)

    go : (a : Result LeaseRecord Fault) → Tallied w (judged_by (read_at w r) judge a)
    go (Ok x) = n read x
    go (Err g) = λ _ _. read

-- a block is written, and what follows does not refuse
written_tallied : {A : Type 0} (w : World) (r : ℕ) (bytes : List ℕ) (next : World → Outcome A) → ((f : Fault) → (next (written_at w r bytes)).answer ≡ Err f → ⊥) → Tallied w (writing_block w r bytes next)
written_tallied w r bytes next never =
    let d = w.room.disk in
    writing_elim (Tallied w) w r bytes next
    (λ g is f e. (after_write d r bytes, (touches d r (length bytes) bytes).same, failed_bytes d r (length bytes) bytes g is, refl))
    (λ _ f e. absurd (never f e))

-- an opening that stops has formatted the blocks before
formatted : (w : World) (r left : ℕ) → Leaves (WithDisk Formatted w) (formatting w r left)
formatted w r ℕ.zero = λ f e. no_refusal e
formatted w r (ℕ.suc left) =
    writing_elim (Leaves (WithDisk Formatted w)) w r new (λ v. formatting v (r + 1) left) (λ g is f e. (after_write d r new, t.same, now, refl))
    (λ ok f e. let (x, same, bytes, world) = formatted (written_at w r new) (r + 1) left f e in (
      x,
      record { height = same.height ∙ t.same.height; blocks = same.blocks ∙ t.same.blocks; homes = λ q. same.homes q ∙ t.same.homes q },
      λ q. elim (bytes q) [ inl a ↦ elim (now q) [ inl b ↦ inl (a ∙ b) | inr b ↦ inr (a ∙ b) ] | inr a ↦ inr a ],
      world,
    ))
  where
    d : DiskModel
    d = w.room.disk

    new : List ℕ
    new = block_of (founding r)

    t : Touched d r new (access_answer d r (length new)) (after_write d r new)
    t = touches d r (length new) new

    now : Formatted d (after_write d r new)
    now q = elim (t.bytes_there q) [ inl a ↦ inl a.0 | inr a ↦ inr (rw (a.2, a.0)) ]

-- the answer of a call told as another kind is a refusal where the call's own is
back : {A : Type 0} (g : A → Answer) (a : Result A Fault) (f : Fault) → answer_by g a ≡ Err f → a ≡ Err f
back g (Ok x) f e = cc
back g (Err c) f e = cc

-- the calls that come to the disk
module _ (w : World) where
  -- a refusal by a test
  first : {A : Type 0} (o : Outcome A) (xs : List (Bool × Refusal)) → Tallied w o → Tallied w (unless w xs o)
  first = tested (WithDisk SameBytes w) w (unchanged w)

  -- no hold, no claim, no write of this name: a refusal too
  found : {A X : Type 0} (o : Option X) (cause : Refusal) (next : X → Outcome A) → ((y : X) → Tallied w (next y)) → Tallied {A = A} w (elim o [ None ↦ refused w cause 0 | Some y ↦ next y ])
  found o cause next n = by_option (Tallied w) o (refused w cause 0) next (λ _ f e. unchanged w) (λ y _. n y)

  -- a refused call that makes no opening
  kept : {A : Type 0} (g : A → Answer) (c : Call) (o : Outcome A) → Tallied w o → (f : Fault) → answer_by g o.answer ≡ Err f
      → WithDisk SameBytes w o.world ⊎ ((area : List ℕ) × (c ≡ open_room area) × WithDisk Formatted w o.world)
  kept g c o n f e = inl (n f (back g o.answer f e))

  -- a refused watch leaves the world as it was
  watch_untouched : (h r : ℕ) → Leaves (λ v. v ≡ w) (watch_call w h r)
  watch_untouched h r = let Q : World → Type 0 = λ v. v ≡ w in
      tested Q w refl _ (standing w.room h r)
      (by_option (Leaves Q) (hold (seat_at w.room h r)) _ _
      (λ _. by_option (Leaves Q) (claim (seat_at w.room h r)) (refused w WrongSeat 0) _ (λ _ f e. refl) (λ x _. tested Q w refl _ (leave_tests w h x) (λ f e. no_refusal e)))
      (λ x _. tested Q w refl _ (expire_tests w h x) (λ f e. no_refusal e)))

  -- and so does a refused loss of a write
  lose_untouched : (x : Mark) → Leaves (λ v. v ≡ w) (lose_call w x)
  lose_untouched x = let Q : World → Type 0 = λ v. v ≡ w in
      tested Q w refl _ ((not w.room.opened, NotOpen) ∷ []) (by_option (Leaves Q) (find x w.room.flights) (refused w NoSuchWrite 0) _ (λ _ f e. refl) (λ g _ f e. no_refusal e))

-- every refused call
pub refused_keeps : RefusedKeeps
unfolding open_call try_call check_call confirm_call land_call spoil_call
refused_keeps w (set_clock h z) = kept w of_done _ (set_clock_call w h z) (first w _ (clock_tests w.room h z) (λ f e. no_refusal e))
refused_keeps w (open_room area) = λ f e.
    let Q = WithDisk Formatted w in
    let here : Q w = (w.room.disk, record { height = refl; blocks = refl; homes = λ r. refl }, λ r. inl refl, refl) in
    let n = w.room.settings.resources in
    inr (
      area,
      refl,
      tested Q w here _ (area_test area ∷ (w.room.opened, NotOpen) ∷ [])
          (cond_both (ltb (length w.room.disk.blocks) n) _ _ (Leaves Q) (λ _ _ _. here) (λ _. formatted w 0 n)) f (back of_done (open_call w area).answer f e),
    )
refused_keeps w tick = kept w of_done _ (tick_call w) (first w _ (tick_tests w.room) (λ f e. no_refusal e))
refused_keeps w (try h r area) =
    kept w of_tried _ (try_call w h r area)
    (first w _ (try_tests w.room h r area) (read_tallied w r (tried h r) (λ read. tried_leaves (WithDisk SameBytes w) (read_at w r) read h r)))
refused_keeps w (check h r area) =
    kept w of_checked _ (check_call w h r area)
    (first w _ (area_test area ∷ standing w.room h r)
    (found w (claim (seat_at w.room h r)) WrongSeat _
    (λ x. first w _ (check_tests w h x.issued) (read_tallied w r (checked h r x) (λ read. checked_leaves (WithDisk SameBytes w) (read_at w r) read h r x)))))
refused_keeps w (renew h r) =
    kept w of_mark _ (renew_call w h r)
    (first w _ (standing w.room h r) (found w (hold (seat_at w.room h r)) WrongSeat _ (λ x. first w _ (late w.room h x ∷ issue_tests w.room h) (λ f e. no_refusal e))))
refused_keeps w (confirm h r area) =
    kept w of_confirmed _ (confirm_call w h r area)
    (first w _ (area_test area ∷ standing w.room h r)
    (found w (hold (seat_at w.room h r)) WrongSeat _
    (λ x. found w x.pending WrongSeat _
    (λ p. first w _ (log_test w ∷ late w.room h x ∷ []) (read_tallied w r (confirmed h r x p) (λ read. confirmed_leaves (WithDisk SameBytes w) (read_at w r) read h r x p))))))
refused_keeps w (release h r) =
    kept w of_mark _ (release_call w h r)
    (first w _ (standing w.room h r) (found w (hold (seat_at w.room h r)) WrongSeat _ (λ x. first w _ (log_test w ∷ late w.room h x ∷ issue_tests w.room h) (λ f e. no_refusal e))))
refused_keeps w (watch h r) =
    kept w of_done _ (watch_call w h r) (λ f e. rw (watch_untouched w h r f e) (unchanged w))
refused_keeps w (land x area) =
    kept w of_done _ (land_call w x area)
    (first w _ (area_test area ∷ (not w.room.opened, NotOpen) ∷ [])
    (found w (find x w.room.flights) NoSuchWrite _
    (λ g. written_tallied w g.body.resource (block_of g.body) (λ v. done (at_room v (with_flights v.room (removed x w.room.flights)))) (λ f e. no_refusal e))))
refused_keeps w (lose x) =
    kept w of_done _ (lose_call w x) (λ f e. rw (lose_untouched w x f e) (unchanged w))
refused_keeps w (spoil r area) =
    kept w of_done _ (spoil_call w r area) (first w _ (spoil_tests w.room r area) (written_tallied w r spoiled_block done (λ f e. no_refusal e)))
refused_keeps w (crash h) = kept w of_done _ (crash_call w h) (first w _ (crash_tests w h) (λ f e. no_refusal e))
refused_keeps w (restart h) = kept w of_done _ (restart_call w h) (first w _ (restart_tests w.room h) (λ f e. no_refusal e))
