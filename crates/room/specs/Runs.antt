-- Calls in code as calls of the rules, and what holds of a room whatever calls are made of it.
use Rattle.std.specs.Prelude.{◌≡◌, ℕ, ◌<◌, List, [], ◌∷◌, ◌++◌}
use Rattle.disk.specs.Model.{DiskModel}
use Rattle.format.specs.declared.events.LogEntry.{LogEntry}
use Rattle.machine.specs.declared.settings.Settings.{Settings}
use Rattle.machine.specs.Room.{Room, World}
use Rattle.machine.specs.Calls as rules
use Rattle.machine.specs.Calls.{after}
use Rattle.machine.specs.Soundness.{Grants, Rising, Sound, fresh_world}
use Rattle.room.specs.Rooms.{zeros}
use Rattle.room.specs.declared.call.Call.{Call}
use Rattle.room.specs.declared.call.Call.TheVariants as calls
use Rattle.board.specs.Verdicts.{mark_of}

-- a call, with the area that is passed beside it
abbrev pub call_of : Call → List ℕ → rules.Call
call_of (calls.SetClock host offset) area = rules.set_clock host offset
call_of calls.Open area = rules.open_room area
call_of calls.Tick area = rules.tick
call_of (calls.Try host resource) area = rules.try host resource area
call_of (calls.Check host resource) area = rules.check host resource area
call_of (calls.Renew host resource) area = rules.renew host resource
call_of (calls.Confirm host resource) area = rules.confirm host resource area
call_of (calls.Release host resource) area = rules.release host resource
call_of (calls.Watch host resource) area = rules.watch host resource
call_of (calls.Land name) area = rules.land (mark_of name) area
call_of (calls.Lose name) area = rules.lose (mark_of name)
call_of (calls.Spoil resource) area = rules.spoil resource area
call_of (calls.Crash host) area = rules.crash host
call_of (calls.Restart host) area = rules.restart host

-- calls one after the other, all with one area, which each of them leaves all zero
abbrev pub calls_of : List Call → List ℕ → List rules.Call
calls_of [] area = []
calls_of (c ∷ cs) area = call_of c area ∷ calls_of cs (zeros area)

-- with any list for its log, after any calls from here on: the room is sound, and the grants of the run rise
abbrev pub SoundFrom : Room → Type 0
SoundFrom m = (log : List LogEntry) → ((cs : List rules.Call) → Sound (after (record { room = m; log = log }) cs)) × Rising (record { room = m; log = log })

-- the world w is that of a run from start, of these calls and one more: it is sound, as the one before was, and what the
-- last call grants is above all that was granted before
pub record GoesOn (start : World) (cs : List rules.Call) (last : rules.Call) (w : World) : Type 0 where
  pub run : w ≡ after start (cs ++ (last ∷ []))
  pub before : Sound (after start cs)
  pub sound : Sound w
  pub rises : (past between : List rules.Call) (first : rules.Call) (r s t : ℕ) → cs ≡ past ++ (first ∷ between) → Grants (after start past) first r s → Grants (after start cs) last r t → s < t

-- one more call: if v is what any calls have made of any newly founded room, then w is what these and the last one make of it
abbrev pub StaysSoundBy : rules.Call → World → World → Type 0
StaysSoundBy last v w =
    (s : Settings) (d : DiskModel) (log : List LogEntry) (cs : List rules.Call) → v ≡ after (fresh_world s d log) cs → GoesOn (fresh_world s d log) cs last w
