-- Land, lose and spoil: what becomes of writes and blocks.
use Rattle.std.specs.Prelude.{ℕ, Bool, cond, not, List, [], ◌∷◌, replicate, Some, None, Option, nat_lt}
use Rattle.disk.specs.declared.fault.Refusal.{Refusal}
use Rattle.disk.specs.declared.fault.Refusal.TheVariants.{NotOpen, NoSuchHostOrResource, NoSuchWrite}
use Rattle.disk.specs.Model.{block_length}
use Rattle.format.specs.declared.lease.Mark.{Mark}
use Rattle.format.specs.Blocks.{block_of}
use Rattle.machine.specs.declared.types.Flight.{Flight}
use Rattle.machine.specs.Room.{Room, World, at_room, with_flights}
use Rattle.machine.specs.Outcomes.{Outcome, area_test, done, refused, unless}
use Rattle.machine.specs.Seats.{same_mark}
use Rattle.machine.specs.Steps.{writing_block}

-- the write in flight that a mark names
abbrev pub find : Mark → List Flight → Option Flight
find mark [] = None
find mark (f ∷ fs) = cond (same_mark f.body.mark mark) (Some f) (find mark fs)

-- the writes in flight without it
abbrev pub removed : Mark → List Flight → List Flight
removed mark [] = []
removed mark (f ∷ fs) = cond (same_mark f.body.mark mark) fs (f ∷ removed mark fs)

-- the record is written to its resource's block; a refused landing leaves it in flight
unfoldable pub land_call : World → Mark → List ℕ → Outcome (Unit {0})
land_call w mark area =
    let m = w.room in
    unless w (area_test area ∷ (not m.opened, NotOpen) ∷ []) (elim (find mark m.flights) [
      | None ↦ refused w NoSuchWrite 0
      | Some f ↦ writing_block w f.body.resource (block_of f.body)
          (λ w'. done (at_room w' (with_flights w'.room (removed mark m.flights))))
    ])

-- lose takes a write out of flight
abbrev pub lose_call : World → Mark → Outcome (Unit {0})
lose_call w mark =
    let m = w.room in
    unless w ((not m.opened, NotOpen) ∷ []) (elim (find mark m.flights) [
      | None ↦ refused w NoSuchWrite 0
      | Some f ↦ done (at_room w (with_flights m (removed mark m.flights)))
    ])

-- every byte of a spoiled block is 255
abbrev pub spoiled_block : List ℕ
spoiled_block = replicate block_length 255

-- the area is a block long, the room is open, the resource is there
abbrev pub spoil_tests : Room → ℕ → List ℕ → List (Bool × Refusal)
spoil_tests m r area = area_test area ∷ (not m.opened, NotOpen) ∷ (not (nat_lt r m.settings.resources), NoSuchHostOrResource) ∷ []

-- spoil leaves no record in the block
unfoldable pub spoil_call : World → ℕ → List ℕ → Outcome (Unit {0})
spoil_call w r area = unless w (spoil_tests w.room r area) (writing_block w r spoiled_block done)
