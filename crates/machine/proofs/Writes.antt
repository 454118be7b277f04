-- What the disk's side and time keep: land, lose, spoil, tick.
use Rattle.std.proofs.Common.{◌≡◌, ℕ, ◌+◌, not, ltb, List, [], ◌∷◌, length, Some, None, sym, refl, ◌∙◌}
use Rattle.std.proofs.lemmas.Bool.{not-false, ltb-true}
use Rattle.disk.specs.declared.fault.Refusal.TheVariants.{NotOpen, NoSuchWrite}
use Rattle.disk.specs.Model.{DiskModel, after_write}
use Rattle.format.specs.declared.lease.Mark.{Mark}
use Rattle.format.specs.Blocks.{block_of}
use Rattle.machine.specs.declared.types.Flight.{Flight}
use Rattle.machine.specs.Room.{World, at_room, with_flights}
use Rattle.machine.specs.Outcomes.{Outcome, area_test, refused, done}
use Rattle.machine.specs.Writes.{spoil_tests, spoiled_block, find, removed, land_call, lose_call, spoil_call}
use Rattle.machine.specs.Setup.{tick_tests, younger, tick_call}
use Rattle.machine.specs.View.{In, view}
use Rattle.machine.specs.Moves.{Gone, Move}
use Rattle.machine.proofs.Blocks.{touches, writing_elim}
use Rattle.machine.proofs.Records.{reads_back, spoiled}
use Rattle.machine.proofs.Flights.{find_in, removed_in, removed_apart, removed_stays, younger_in, younger_stays, younger_apart}
use Rattle.machine.proofs.Tests.{unless_elim, by_option}
use Rattle.machine.proofs.Shape.{Flying, Inv, Kept}
use Rattle.machine.proofs.Kept.{kept_same, still_of, moved_on, moved_kept, failed_kept, written_as}

-- tick keeps a room
pub tick_kept : (w : World) → Inv w → Kept w (tick_call w).world
unfolding view
tick_kept w i =
    let m = w.room in
    let d = m.settings.delay in
    let t = m.tick + 1 in
    let fs = younger d t m.flights in
    let young = λ (g : Flight) (n : In g fs). younger_in d t g m.flights n in
    let fly : Flying m.settings fs = record { apart = younger_apart d t m.flights i.shape.flying.apart; valid = λ g n. i.shape.flying.valid g (young g n).0 } in
    unless_elim (λ (y : Outcome (Unit {0})). Kept w y.world) w _ (tick_tests m) (λ _. kept_same w i)
    (λ f. moved_kept w m.disk t fs i (not-false m.opened f.0) refl fly
    (Move.passes refl (λ h. refl) (λ h. refl) (λ h. refl) (λ h r. refl) (record { names = λ q. refl; tops = λ q. refl }) (λ r. refl) young (λ g n late. younger_stays d t g m.flights n late)))

-- the write f, with mark x, is taken out of flight
module _ (w : World) (x : Mark) (f : Flight) (i : Inv w) (e : find x w.room.flights ≡ Some f) where
  -- it was there
  was : In f w.room.flights × (f.body.mark ≡ x)
  was = find_in x f w.room.flights e

  flying_without : Flying w.room.settings (removed x w.room.flights)
  flying_without = let a = i.shape.flying.apart in record { apart = removed_apart x w.room.flights a; valid = λ g n. i.shape.flying.valid g (removed_in x g w.room.flights a n).0 }

  gone_of : (d : DiskModel) → Gone (view w) (view (moved_on w d w.room.tick (removed x w.room.flights))) f
  unfolding view
  gone_of d = record {
    was = was.0;
    flights = λ g n. let j = removed_in x g w.room.flights i.shape.flying.apart n in (j.0, λ same. j.1 (same ∙ was.1));
    others = λ g n other. removed_stays x g w.room.flights n (λ same. other (same ∙ sym was.1));
  }

-- lose keeps a room
pub lose_kept : (w : World) (x : Mark) → Inv w → Kept w (lose_call w x).world
unfolding view
lose_kept w x i =
    let m = w.room in
    let P : Outcome (Unit {0}) → Type 0 = λ y. Kept w y.world in
    unless_elim P w _ ((not m.opened, NotOpen) ∷ []) (λ _. kept_same w i)
    (λ t. by_option P (find x m.flights) (refused w NoSuchWrite 0) _ (λ _. kept_same w i)
    (λ f e. moved_kept w m.disk m.tick (removed x m.flights) i (not-false m.opened t.0) refl (flying_without w x f i e)
    (Move.loses f (still_of w m.disk m.opened (removed x m.flights)) (gone_of w x f i e m.disk) (λ r. refl))))

-- land keeps a room
pub land_kept : (w : World) (x : Mark) (area : List ℕ) → Inv w → Kept w (land_call w x area).world
unfolding land_call view
land_kept w x area i =
    let m = w.room in
    let P : Outcome (Unit {0}) → Type 0 = λ y. Kept w y.world in
    unless_elim P w _ (area_test area ∷ (not m.opened, NotOpen) ∷ []) (λ _. kept_same w i)
    (λ t. let o = not-false m.opened t.1.0 in
    by_option P (find x m.flights) (refused w NoSuchWrite 0) _ (λ _. kept_same w i)
    (λ f e. let r = f.body.resource in
    let new = block_of f.body in
    let d = after_write m.disk r new in
    let valid = i.shape.flying.valid f (was w x f i e).0 in
    writing_elim P w r new (λ v. done (at_room v (with_flights v.room (removed x m.flights)))) (λ g bad. failed_kept w r new o g i bad)
    (λ well. moved_kept w d m.tick (removed x m.flights) i o (touches m.disk r (length new) new).same.blocks (flying_without w x f i e)
    (Move.lands f (still_of w d m.opened (removed x m.flights)) (gone_of w x f i e d) (written_as w r new o (Some f.body) valid.1 well (reads_back f.body valid.0))))))

-- spoil keeps a room
pub spoil_kept : (w : World) (r : ℕ) (area : List ℕ) → Inv w → Kept w (spoil_call w r area).world
unfolding spoil_call view
spoil_kept w r area i =
    let m = w.room in
    let P : Outcome (Unit {0}) → Type 0 = λ y. Kept w y.world in
    let new = spoiled_block in
    let d = after_write m.disk r new in
    unless_elim P w _ (spoil_tests m r area) (λ _. kept_same w i)
    (λ f. let o = not-false m.opened f.1.0 in
    let l = ltb-true r m.settings.resources (not-false (ltb r m.settings.resources) f.1.1.0) in
    writing_elim P w r new done (λ g bad. failed_kept w r new o g i bad)
    (λ well. moved_kept w d m.tick m.flights i o (touches m.disk r (length new) new).same.blocks i.shape.flying
    (Move.spoils r (still_of w d m.opened m.flights) refl (written_as w r new o None l well spoiled))))
