use Rattle.std.proofs.Common.{◌≡◌, ℕ, ◌<◌, get_or}
use Rattle.format.specs.declared.events.Event.TheVariants.{Granted}
use Rattle.format.specs.Logs.{event_word}
use Rattle.format.proofs.line.event_in.Given as goal

abbrev pub invariant-loop-event : goal.invariant-loop-event
invariant-loop-event l = (k : ℕ) → k < l.event-index → l.word ≡ event_word (get_or l.event-items k Granted) → ⊥
