-- One more call of a room that calls have made of a newly founded one.
use Rattle.std.proofs.Common.{◌≡◌, List, [], ◌∷◌, ◌++◌, sym, ap, ◌∙◌, subst}
use Rattle.machine.specs.Room.{World}
use Rattle.machine.specs.Calls.{Call, after, perform}
use Rattle.machine.specs.Soundness.{Grants, Sound, fresh_world}
use Rattle.machine.proofs.Runs.{after_append, stays_sound_lem}
use Rattle.room.specs.Runs.{StaysSoundBy}

-- it is a run again, and sound
pub stays_sound_by : (last : Call) (v w : World) → w ≡ (perform last v).world → StaysSoundBy last v w
stays_sound_by last v w moved s d log cs ran =
    let start : World = fresh_world s d log in
    let all = stays_sound_lem s d log in
    let run : w ≡ after start (cs ++ (last ∷ [])) = moved ∙ ap (λ (x : World). (perform last x).world) ran ∙ sym (after_append start cs (last ∷ [])) in
    record {
      run = run;
      before = all.0 cs;
      sound = subst Sound (sym run) (all.0 (cs ++ (last ∷ [])));
      rises = λ past between first r k t is one two. all.1 past between first last r k t one (subst (λ (xs : List Call). Grants (after start xs) last r t) is two);
    }
