-- The published examples, with a delay of 10 and a lease of 40.
use Rattle.std.specs.Prelude.{◌≡◌, ℕ, List, [], ◌∷◌, ◌++◌, replicate, pos, Ok, Err, Result}
use Rattle.std.proofs.Common.{arith}
use Rattle.disk.specs.declared.fault.Fault.{Fault}
use Rattle.disk.specs.declared.fault.Refusal.{Refusal}
use Rattle.disk.specs.declared.fault.Refusal.TheVariants.{Early, Late, NoSuchWrite}
use Rattle.disk.specs.Images.{plain}
use Rattle.format.specs.declared.lease.Mark.{Mark}
use Rattle.format.specs.declared.events.LogEntry.{LogEntry}
use Rattle.format.specs.declared.events.Event.TheVariants.{Granted}
use Rattle.format.specs.Examples.{WorkedExamples}
use Rattle.machine.specs.declared.settings.Settings.{Settings}
use Rattle.machine.specs.declared.types.Tried.{Tried}
use Rattle.machine.specs.declared.types.Tried.TheVariants as tries
use Rattle.machine.specs.declared.types.Checked.{Checked}
use Rattle.machine.specs.declared.types.Checked.TheVariants as checks
use Rattle.machine.specs.Room.{World}
use Rattle.machine.specs.Claiming.{try_call, check_call}
use Rattle.machine.specs.Writes.{land_call}
use Rattle.machine.specs.Calls.{Call, open_room, tick, try, land, after}
use Rattle.machine.specs.Soundness.{fresh_world}

-- two hosts, one resource
abbrev pub example_settings : Settings
example_settings =
    record {
      hosts = 2;
      resources = 1;
      delay = 10;
      lease = 40;
      hosts_low = omega arith;
      hosts_high = omega arith;
      resources_low = omega arith;
      resources_high = omega arith;
      delay_low = omega arith;
      delay_high = omega arith;
      lease_low = omega arith;
      lease_high = omega arith;
    }

-- an area, and an image of one block
abbrev pub zero_block : List ℕ
zero_block = replicate 512 0

-- what the log list holds at first
abbrev pub blank_entry : LogEntry
blank_entry = record { tick = record { 0 = 0 }; event = Granted; host = 0; resource = 0; term = 0; until = record { 0 = 0 } }

-- a newly founded room over an image of one block, with a log of one entry
abbrev pub example_world : World
example_world = fresh_world example_settings (plain zero_block) (blank_entry ∷ [])

-- the mark of the first write of a host
abbrev pub first_mark : ℕ → Mark
first_mark host = record { owner = host; generation = 1; stamp = 1 }

-- so many ticks pass
abbrev pub ticks : ℕ → List Call
ticks n = replicate n tick

-- host 0 claims at tick 0, in a room that has just been opened
abbrev pub claim_issued : List Call
claim_issued = open_room zero_block ∷ try 0 0 zero_block ∷ []

-- and its claim lands
abbrev pub claim_landed : List Call
claim_landed = claim_issued ++ (land (first_mark 0) zero_block ∷ [])

-- what a check of the claim answers after so many ticks
abbrev pub checked_at : ℕ → Result Checked Fault
checked_at n = (check_call (after example_world (claim_landed ++ ticks n)) 0 0 zero_block).answer

-- what a landing of the claim answers after so many ticks
abbrev pub landed_at : ℕ → Result (Unit {0}) Fault
landed_at n = (land_call (after example_world (claim_issued ++ ticks n)) (first_mark 0) zero_block).answer

-- host 1 watches the claim from tick 5; what a try of it answers so many ticks later
abbrev pub watched_for : ℕ → Result Tried Fault
watched_for n = (try_call (after example_world (claim_landed ++ (ticks 5 ++ (try 1 0 zero_block ∷ ticks n)))) 1 0 zero_block).answer

-- a fault of a room above a plain image
abbrev pub refusal_of : Refusal → Fault
refusal_of cause = record { cause = cause; number = 0; height = 1 }

-- all of them in one statement
pub record PublishedExamples : Type 0 where
  -- the two blocks and the four offsets
  pub formats : WorkedExamples
  -- a claim of tick 0 is too early at 20 and granted at 21; it is granted at 39 and late at 40
  pub early_at_20 : checked_at 20 ≡ Err (refusal_of Early)
  pub granted_at_21 : checked_at 21 ≡ Ok (checks.Granted 1 (record { 0 = pos 40 }))
  pub granted_at_39 : checked_at 39 ≡ Ok (checks.Granted 1 (record { 0 = pos 40 }))
  pub late_at_40 : checked_at 40 ≡ Err (refusal_of Late)
  -- a write of tick 0 lands at 10; at 11 there is no such write
  pub lands_at_10 : landed_at 10 ≡ Ok tt
  pub lost_at_11 : landed_at 11 ≡ Err (refusal_of NoSuchWrite)
  -- watching since 5 is too early at 44 and claims at 45
  pub early_at_44 : watched_for 39 ≡ Err (refusal_of Early)
  pub claims_at_45 : watched_for 40 ≡ Ok (tries.Claimed (first_mark 1))
