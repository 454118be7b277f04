-- Opening a room where nothing has happened yet.
use Rattle.std.proofs.Common.{◌≡◌, ℕ, ◌+◌, ◌<◌, ◌≤◌, true, false, ltb, [], ◌∷◌, List, length, Some, None, sym, refl, ap, ◌∙◌, inl, inr, arith}
use Rattle.std.proofs.lemmas.Bool.{cond_both, ltb-false, cases_lt, le-ltb}
use Rattle.format.specs.declared.lease.LeaseRecord.{LeaseRecord}
use Rattle.format.specs.Blocks.{founding, block_of}
use Rattle.disk.specs.declared.fault.Refusal.TheVariants.{NotOpen}
use Rattle.disk.specs.Model.{DiskModel, after_write, block}
use Rattle.machine.specs.Room.{Room, World, at_room, with_disk}
use Rattle.machine.specs.Outcomes.{Outcome, area_test}
use Rattle.machine.specs.Setup.{formatting, open_call}
use Rattle.machine.specs.Steps.{written_at}
use Rattle.machine.specs.View.{view, record_at, record_of}
use Rattle.machine.specs.Moves.{Move}
use Rattle.machine.proofs.Blocks.{touches, writing_elim}
use Rattle.machine.proofs.Records.{Valid, reads_back}
use Rattle.machine.proofs.Tests.{unless_elim}
use Rattle.machine.proofs.Shape.{Inv, Kept}
use Rattle.machine.proofs.Kept.{kept_by, kept_same, kept_from, same_view, still_of, shut_untouched, record_here}

-- a closed room reads no block
pub shut_record : (m : Room) (q : ℕ) → m.opened ≡ false → record_at m q ≡ None
shut_record m q shut = rw shut

-- the disk of a closed room is written
module _ (w : World) (d : DiskModel) (shut : w.room.opened ≡ false) where
  -- which shows in no block
  shut_view : view (at_room w (with_disk w.room d)) ≡ view w
  shut_view = same_view w d (λ q. shut_record (with_disk w.room d) q shut ∙ sym (shut_record w.room q shut))

  -- it stays closed
  shut_kept : Inv w → Kept w (at_room w (with_disk w.room d))
  shut_kept i = let s = i.shape in
      kept_by w (at_room w (with_disk w.room d)) i (record { seated = s.seated; flying = s.flying; blocks = λ e. cc; closed = s.closed }) refl (Move.rests shut_view)

-- the founding record is one that the room writes
founding_valid : (r : ℕ) → r < 8 → Valid (founding r)
founding_valid r l = record { resource = l; owner = omega arith; generation = omega arith; stamp = omega arith; term = omega arith; marked = inl (refl, refl, refl, refl, refl) }

-- the room is open once every block is founding
opened_kept : (w : World) → Inv w → w.room.opened ≡ false → w.room.settings.resources ≤ length w.room.disk.blocks
    → ((q : ℕ) → q < w.room.settings.resources → record_of (block w.room.disk q).bytes ≡ Some (founding q)) → Kept w (formatting w 0 0).world
unfolding view
opened_kept w i shut enough all =
    kept_by w v i (record { seated = i.shape.seated; flying = i.shape.flying; blocks = λ _. enough; closed = λ e. cc }) refl
    (Move.opens (shut_untouched w (i.shape.closed shut)) (still_of w w.room.disk true w.room.flights) refl founded_is (i.shape.seated.aged 0 (omega arith)).0)
  where
    v : World
    v = (formatting w 0 0).world

    founded_is : (r : ℕ) (y : LeaseRecord) → record_at v.room r ≡ Some y → y ≡ founding r
    founded_is r y e = elim (cases_lt r w.room.settings.resources) [
      | inl l ↦ let f = record_here v.room r refl l in let g = all r l in cc
      | inr l ↦ let f = rw (le-ltb r w.room.settings.resources l) at e in cc
    ]

-- formatting keeps a room, whether it gets to the end or not
formatting_kept : (w : World) (r left : ℕ) → Inv w → w.room.opened ≡ false → r + left ≡ w.room.settings.resources → w.room.settings.resources ≤ length w.room.disk.blocks
    → ((q : ℕ) → q < r → record_of (block w.room.disk q).bytes ≡ Some (founding q)) → Kept w (formatting w r left).world
formatting_kept w r ℕ.zero i shut sum enough all = opened_kept w i shut enough (λ q l. all q (omega arith))
formatting_kept w r (ℕ.suc left) i shut sum enough all =
    let new = block_of (founding r) in
    let d = after_write w.room.disk r new in
    let t = touches w.room.disk r (length new) new in
    let n = shut_kept w d shut i in
    writing_elim (λ (y : Outcome (Unit {0})). Kept w y.world) w r new (λ v. formatting v (r + 1) left) (λ f _. n)
    (λ well. kept_from w (written_at w r new) _ refl (shut_view w d shut) (formatting_kept (written_at w r new) (r + 1) left n.inv shut (omega arith) (omega arith)
    (λ q l. elim (t.bytes_there q) [
      | inl a ↦ ap record_of a.0 ∙ all q (let ne = a.1 well in omega arith)
      | inr a ↦ rw (a.2, a.0) (reads_back (founding r) (founding_valid r (omega arith)))
    ])))

-- open keeps a room
pub open_kept : (w : World) (area : List ℕ) → Inv w → Kept w (open_call w area).world
unfolding open_call
open_kept w area i =
    let m = w.room in
    let P : Outcome (Unit {0}) → Type 0 = λ y. Kept w y.world in
    unless_elim P w _ (area_test area ∷ (m.opened, NotOpen) ∷ []) (λ _. kept_same w i)
    (λ f. cond_both (ltb (length m.disk.blocks) m.settings.resources) _ _ P (λ _. kept_same w i)
    (λ e. formatting_kept w 0 m.settings.resources i f.1.0 (omega arith) (ltb-false (length m.disk.blocks) m.settings.resources e) (λ q l. absurd (omega arith))))
