-- What a move of the machine keeps: the pieces that the calls share.
use Rattle.std.proofs.Common.{◌≡◌, ℕ, ◌+◌, ◌<◌, Bool, true, false, cond, ◌&&◌, ltb, leb, List, [], ◌∷◌, ◌++◌, length, take, set, Some, None, Ok, Err, Option, Result, sym, refl, ap, ◌∙◌, subst, inl, inr, arith}
use mathlib.Core.Path.{fun_ext}
use Rattle.std.proofs.lemmas.List.{take_more_set}
use Rattle.std.proofs.lemmas.Bool.{leb-false, lt-ltb}
use Rattle.disk.specs.declared.fault.Fault.{Fault}
use Rattle.disk.specs.Model.{DiskModel, access_answer, after_read, after_write, block}
use Rattle.format.specs.declared.lease.LeaseRecord.{LeaseRecord}
use Rattle.format.specs.declared.events.LogEntry.{LogEntry}
use Rattle.format.specs.Stores.{read_answer}
use Rattle.format.proofs.Decoding.{decodes}
use Rattle.format.proofs.Storing.{reads_exactly}
use Rattle.machine.specs.declared.types.Flight.{Flight}
use Rattle.machine.specs.declared.settings.Settings.{Settings}
use Rattle.machine.specs.Room.{Room, World, at_room, with_disk}
use Rattle.machine.specs.Outcomes.{Outcome}
use Rattle.machine.specs.Steps.{judged_by, read_at, reading_block, written_at}
use Rattle.machine.specs.View.{View, record_by, record_of, view, In, nobody, record_at}
use Rattle.machine.specs.Soundness.{entries}
use Rattle.machine.specs.Moves.{Logged, Still, Untouched, Written, Move}
use Rattle.machine.proofs.Core.{Core}
use Rattle.machine.proofs.MoveSteps.{move_keeps}
use Rattle.machine.proofs.Blocks.{touches, read_bytes, failed_bytes}
use Rattle.machine.proofs.Logs.{owner_push, highest_push}
use Rattle.machine.proofs.Shape.{Closed, Flying, Shape, Inv, Kept}

-- a move keeps what every room keeps
pub kept_by : (w v : World) → Inv w → Shape v → w.room.settings ≡ v.room.settings → Move w.room.settings (view w) (view v) → Kept w v
kept_by w v i s e t =
    let k = move_keeps w.room.settings (view w) (view v) i.core t in
    record { inv = record { shape = s; core = subst (λ (z : Settings). Core z (view v)) e k.0 }; tops = k.1; moved = t }

-- nothing is done
pub kept_same : (w : World) → Inv w → Kept w w
kept_same w i = record { inv = i; tops = λ r. omega arith; moved = Move.rests refl }

-- what is kept after something that changes no more than tallies is kept before it
pub kept_from : (w v x : World) → w.room.settings ≡ v.room.settings → view v ≡ view w → Kept v x → Kept w x
kept_from w v x s e n =
    record {
      inv = n.inv;
      tops = λ r. let f = ap (λ (V : View). V.top r) e in omega arith;
      moved = subst (λ (z : Settings). Move z (view w) (view x)) (sym s) (subst (λ (V : View). Move v.room.settings V (view x)) e n.moved);
    }

-- another disk, of which every block reads as before
pub same_view : (w : World) (d : DiskModel) → ((q : ℕ) → record_at (with_disk w.room d) q ≡ record_at w.room q) → view (at_room w (with_disk w.room d)) ≡ view w
unfolding view
same_view w d same =
    ap (λ (b : ℕ → Option LeaseRecord). record { tick = (view w).tick; up = (view w).up; gen = (view w).gen; stamp = (view w).stamp; seat = (view w).seat; block = b; flights = (view w).flights; named = (view w).named; top = (view w).top })
    (fun_ext same)

-- another disk and other flights, perhaps in an open room: tick, hosts and seats stay, and nothing is logged
pub still_of : (w : World) (d : DiskModel) (opened : Bool) (fs : List Flight)
    → Still (view w) (view (let m = w.room in record { room = record { settings = m.settings; disk = d; opened = opened; tick = m.tick; hosts = m.hosts; seats = m.seats; flights = fs; logged = m.logged }; log = w.log }))
unfolding view
still_of w d opened fs = record { tick = refl; ups = λ h. refl; gens = λ h. refl; stamps = λ h. refl; seats = λ h r. refl; unlogged = record { names = λ q. refl; tops = λ q. refl } }

-- in a closed room nothing has happened yet
pub shut_untouched : (w : World) → Closed w.room.seats w.room.flights w.room.logged → Untouched (view w)
unfolding view
shut_untouched w c = record {
  seats = λ h r. rw (c.seats h r);
  flights = λ {f} i. none f (rw c.flights at i);
  tops = λ r. rw c.logged;
  names = λ r. rw c.logged;
}
  where
    none : (f : Flight) → In f [] → ⊥
    none f i = elim i [ ]

-- one more entry in the log
pub logged_of : (w v : World) (e : LogEntry) → leb (length w.log) w.room.logged ≡ false → entries v ≡ take (w.room.logged + 1) (set w.log w.room.logged e) → Logged (view w) (view v) e
unfolding view
logged_of w v e room is =
    let more : entries v ≡ entries w ++ (e ∷ []) = is ∙ take_more_set w.log w.room.logged e (leb-false (length w.log) w.room.logged room) in
    record {
      names = λ q. rw more (owner_push nobody (entries w) e q);
      tops = λ q. rw more (highest_push 0 (entries w) e q);
    }

-- disk, time and writes in flight are others
module _ (w : World) (d : DiskModel) (t : ℕ) (fs : List Flight) where
  abbrev pub moved_on : World
  moved_on = let m = w.room in record { room = record { settings = m.settings; disk = d; opened = m.opened; tick = t; hosts = m.hosts; seats = m.seats; flights = fs; logged = m.logged }; log = w.log }

  -- so an open room is kept if it is a move
  pub moved_kept : Inv w → w.room.opened ≡ true → length d.blocks ≡ length w.room.disk.blocks → Flying w.room.settings fs → Move w.room.settings (view w) (view moved_on) → Kept w moved_on
  moved_kept i o long flying = kept_by w moved_on i (record { seated = i.shape.seated; flying = flying; blocks = λ _. omega arith; closed = λ e. cc }) refl

-- a block of the same bytes reads as before
same_record : (m : Room) (d : DiskModel) (q : ℕ) → (block d q).bytes ≡ (block m.disk q).bytes → record_at (with_disk m d) q ≡ record_at m q
same_record m d q = ap (λ (bs : List ℕ). cond (m.opened && ltb q m.settings.resources) (record_of bs) None)

-- block r reads as what its bytes say
pub record_here : (m : Room) (r : ℕ) → m.opened ≡ true → r < m.settings.resources → record_at m r ≡ record_of (block m.disk r).bytes
record_here m r o l = rw (o, lt-ltb r m.settings.resources l)

module _ (w : World) (r : ℕ) where
  -- a read leaves every block as it reads
  pub read_view : view (read_at w r) ≡ view w
  read_view = let d = w.room.disk in same_view w (after_read d r 512) (λ q. same_record w.room (after_read d r 512) q (read_bytes d r 512 q))

  -- so it keeps a room
  pub read_kept : Inv w → w.room.opened ≡ true → Kept w (read_at w r)
  read_kept i o = let d = w.room.disk in
      moved_kept w (after_read d r 512) w.room.tick w.room.flights i o (touches d r 512 (block d r).bytes).same.blocks i.shape.flying (Move.rests read_view)

  -- the disk fails, or there is no record, or what follows from the record
  pub reading_elim : {A : Type 0} (P : Outcome A → Type 0) (judge : World → LeaseRecord → Outcome A) → w.room.opened ≡ true → r < w.room.settings.resources
      → ((f : Fault) → P (record { answer = Err f; world = read_at w r }))
      → ((x : LeaseRecord) → (view (read_at w r)).block r ≡ Some x → P (judge (read_at w r) x)) → P (reading_block w r judge)
  unfolding view
  reading_elim P judge o l failing some = go (read_answer d r 512) refl
    where
      d : DiskModel
      d = w.room.disk

      go : (a : Result LeaseRecord Fault) → read_answer d r 512 ≡ a → P (judged_by (read_at w r) judge a)
      go (Err f) is = failing f
      go (Ok x) is = let h = (reads_exactly d r 512 x (read_answer d r 512) refl).0 is in
          some x (record_here (read_at w r).room r o l ∙ ap record_of (read_bytes d r 512 r) ∙ ap record_by (decodes x (block d r).bytes h.1))

  module _ (bytes : List ℕ) (o : w.room.opened ≡ true) where
    -- a write that fails keeps a room
    pub failed_kept : (f : Fault) → Inv w → access_answer w.room.disk r (length bytes) ≡ Err f → Kept w (written_at w r bytes)
    failed_kept f i e = let d = w.room.disk in let d' = after_write d r bytes in
        moved_kept w d' w.room.tick w.room.flights i o (touches d r (length bytes) bytes).same.blocks i.shape.flying
        (Move.rests (same_view w d' (λ q. same_record w.room d' q (failed_bytes d r (length bytes) bytes f e q))))

    -- after one that goes well block r reads as its bytes, and every other one as before
    pub written_as : (x : Option LeaseRecord) → r < w.room.settings.resources → access_answer w.room.disk r (length bytes) ≡ Ok tt → record_of bytes ≡ x → Written (view w) (view (written_at w r bytes)) r x
    unfolding view
    written_as x l well is q = let d = w.room.disk in elim ((touches d r (length bytes) bytes).bytes_there q) [
      | inl a ↦ inr (same_record w.room (after_write d r bytes) q a.0)
      | inr a ↦ inl (a.0, record_here (written_at w r bytes).room q o (omega arith) ∙ ap record_of a.2 ∙ is)
    ]
