-- What a call that logs comes to once its record is read.
use Rattle.std.proofs.Common.{◌≡◌, ℕ, ◌<◌, List, [], ◌∷◌, length, Ok, Result, sym, ap, ◌∙◌, subst}
use Rattle.std.proofs.lemmas.Bool.{lt-leb}
use Rattle.disk.specs.declared.fault.Fault.{Fault}
use Rattle.disk.specs.declared.fault.Refusal.{Refusal}
use Rattle.disk.specs.Model.{DiskModel, after_read, block_length}
use Rattle.format.specs.declared.events.LogEntry.{LogEntry}
use Rattle.format.specs.declared.lease.LeaseRecord.{LeaseRecord}
use Rattle.format.specs.Stores.{read_answer}
use Rattle.machine.specs.Room.{World}
use Rattle.machine.specs.Outcomes.{Outcome, log_test, then, unless}
use Rattle.machine.specs.Steps.{judged_by, read_at, reading_block}
use Rattle.machine.proofs.Tests.{gate_passes}
use Rattle.board.specs.declared.board.Board.{Board}
use Rattle.board.specs.Over.{world_over}
use Rattle.board.specs.Verdicts.{proceed}

-- the call found x, the log has a place left, and y is the record of block r, read with an area of one block
pub judged : {A X : Type 0} {call : Outcome A} {s : Result X Refusal} {e : DiskModel} {k q size : ℕ} {x : X} {y : LeaseRecord}
    (judge : ℕ → ℕ → X → World → LeaseRecord → Outcome A) (d : DiskModel) (b : Board) (log : List LogEntry) (h r : ℕ)
    → call ≡ proceed (world_over d b log) s (λ z. reading_block (world_over d b log) r (judge h r z)) → Ok x ≡ s → (k ≡ h) × (q ≡ r) → b.logged < length log
    → size ≡ block_length → Ok y ≡ read_answer d r size → e ≡ after_read d r size
    → call ≡ unless (world_over e b log) (log_test (world_over e b log) ∷ []) (judge k q x (world_over e b log) y)
judged {x} {y} judge d b log h r on found whose place long read disk =
    let w = world_over d b log in
    let v = read_at w r in
    on ∙ ap (λ (z : Result _ Refusal). proceed w z (λ x. reading_block w r (judge h r x))) (sym found)
    ∙ ap (judged_by v (judge h r x)) (sym (subst (λ (n : ℕ). Ok y ≡ read_answer d r n) long read))
    ∙ sym (ap (λ (z : Result (Unit {0}) Fault). then z v (judge h r x v y)) (gate_passes v.room (log_test v ∷ []) (lt-leb (length log) b.logged place, tt)))
    ∙ rw (whose.0, whose.1, disk, long)
