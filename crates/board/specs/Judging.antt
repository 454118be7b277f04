-- Calls that read a block, in two parts: what they find before they read, and what they make of the record.
use Rattle.std.specs.Prelude.{[], ◌∷◌, Ok, Err, Result}
use Rattle.disk.specs.declared.fault.Refusal.{Refusal}
use Rattle.format.specs.declared.lease.LeaseRecord.{LeaseRecord}
use Rattle.machine.specs.declared.types.Checked.{Checked}
use Rattle.machine.specs.declared.types.Confirmed.{Confirmed}
use Rattle.machine.specs.Room.{World}
use Rattle.machine.specs.Outcomes.{Outcome, log_test, unless}
use Rattle.machine.specs.Seats.{Claim}
use Rattle.machine.specs.Claiming.{checked}
use Rattle.board.specs.declared.turns.ClaimToCheck.{ClaimToCheck}
use Rattle.board.specs.declared.turns.RenewalToConfirm.{RenewalToConfirm}
use Rattle.board.specs.Verdicts.{Renewal, confirmed}

-- what a step found, told in other terms
abbrev pub told : {X Y : Type 0} → (X → Y) → Result X Refusal → Result Y Refusal
told f (Ok x) = Ok (f x)
told f (Err cause) = Err cause

-- no more than that it went well
abbrev pub passed : {X : Type 0} → Result X Refusal → Result (Unit {0}) Refusal
passed r = told (λ _. tt) r

-- the claim
abbrev pub claim_of : ClaimToCheck → Claim
claim_of x = record { mark = x.mark; term = x.term; issued = x.issued.reading.0 }

-- the renewal
abbrev pub renewal_of : RenewalToConfirm → Renewal
renewal_of x = record { term = x.term; pending = record { mark = x.mark; issued = x.issued.reading } }

-- a claim is judged by a record, if the log has a place for it
abbrev pub judged_claim : ClaimToCheck → World → LeaseRecord → Outcome Checked
judged_claim x w seen = unless w (log_test w ∷ []) (checked x.turn.host.number x.turn.resource (claim_of x) w seen)

-- so is a renewal
abbrev pub judged_renewal : RenewalToConfirm → World → LeaseRecord → Outcome Confirmed
judged_renewal x w seen = unless w (log_test w ∷ []) (confirmed x.turn.host.number x.turn.resource (renewal_of x) w seen)
