-- Every call that a run may make, as data: any numbers, any areas.
use Rattle.std.specs.Prelude.{ℕ, List, [], ◌∷◌, ℤ, Ok, Err, Result}
use Rattle.disk.specs.declared.fault.Fault.{Fault}
use Rattle.format.specs.declared.lease.Mark.{Mark}
use Rattle.machine.specs.declared.types.Tried.{Tried}
use Rattle.machine.specs.declared.types.Tried.TheVariants as tries
use Rattle.machine.specs.declared.types.Checked.{Checked}
use Rattle.machine.specs.declared.types.Checked.TheVariants as checks
use Rattle.machine.specs.declared.types.Confirmed.{Confirmed}
use Rattle.machine.specs.declared.types.Confirmed.TheVariants as confirms
use Rattle.machine.specs.declared.types.Answer.{Answer}
use Rattle.machine.specs.declared.types.Answer.TheVariants as answers
use Rattle.machine.specs.Room.{World}
use Rattle.machine.specs.Outcomes.{Outcome}
use Rattle.machine.specs.Claiming.{try_call, check_call}
use Rattle.machine.specs.Holding.{renew_call, confirm_call, release_call, watch_call}
use Rattle.machine.specs.Writes.{land_call, lose_call, spoil_call}
use Rattle.machine.specs.Hosts.{crash_call, restart_call}
use Rattle.machine.specs.Setup.{set_clock_call, open_call, tick_call}

-- a call with its host, resource, mark, offset and area, as far as it takes them
pub data Call : Type 0 where
  set_clock : ℕ → ℤ → Call
  open_room : List ℕ → Call
  tick : Call
  try : ℕ → ℕ → List ℕ → Call
  check : ℕ → ℕ → List ℕ → Call
  renew : ℕ → ℕ → Call
  confirm : ℕ → ℕ → List ℕ → Call
  release : ℕ → ℕ → Call
  watch : ℕ → ℕ → Call
  land : Mark → List ℕ → Call
  lose : Mark → Call
  spoil : ℕ → List ℕ → Call
  crash : ℕ → Call
  restart : ℕ → Call

-- most calls answer that they were done
abbrev pub of_done : Unit {0} → Answer
of_done _ = answers.Done

-- a renew or a release answers the mark of its write
abbrev pub of_mark : Mark → Answer
of_mark mark = answers.Issued mark

-- a try answers that it watches, or the mark of its claim
abbrev pub of_tried : Tried → Answer
of_tried tries.Watching = answers.Watching
of_tried (tries.Claimed mark) = answers.Issued mark

-- a check answers the grant, or that the claim was overwritten
abbrev pub of_checked : Checked → Answer
of_checked (checks.Granted term until) = answers.Granted term until
of_checked checks.Stolen = answers.Stolen

-- a confirm answers that it was done, or that the lease was overwritten
abbrev pub of_confirmed : Confirmed → Answer
of_confirmed confirms.Renewed = answers.Done
of_confirmed confirms.Stolen = answers.Stolen

-- an answer, told as another kind
abbrev pub answer_by : {A : Type 0} → (A → Answer) → Result A Fault → Result Answer Fault
answer_by f (Ok x) = Ok (f x)
answer_by f (Err e) = Err e

-- an outcome, its answer told as another kind
abbrev pub as_answer : {A : Type 0} → (A → Answer) → Outcome A → Outcome Answer
as_answer f o = record { answer = answer_by f o.answer; world = o.world }

-- any call, made of any world
abbrev pub perform : Call → World → Outcome Answer
perform (set_clock h offset) w = as_answer of_done (set_clock_call w h offset)
perform (open_room area) w = as_answer of_done (open_call w area)
perform tick w = as_answer of_done (tick_call w)
perform (try h r area) w = as_answer of_tried (try_call w h r area)
perform (check h r area) w = as_answer of_checked (check_call w h r area)
perform (renew h r) w = as_answer of_mark (renew_call w h r)
perform (confirm h r area) w = as_answer of_confirmed (confirm_call w h r area)
perform (release h r) w = as_answer of_mark (release_call w h r)
perform (watch h r) w = as_answer of_done (watch_call w h r)
perform (land mark area) w = as_answer of_done (land_call w mark area)
perform (lose mark) w = as_answer of_done (lose_call w mark)
perform (spoil r area) w = as_answer of_done (spoil_call w r area)
perform (crash h) w = as_answer of_done (crash_call w h)
perform (restart h) w = as_answer of_done (restart_call w h)

-- the world after a list of calls, the first call first
abbrev pub after : World → List Call → World
after w [] = w
after w (c ∷ cs) = after (perform c w).world cs
