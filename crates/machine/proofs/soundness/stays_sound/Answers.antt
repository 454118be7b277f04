use Rattle.machine.proofs.Published.{published_examples}
use Rattle.machine.proofs.Refusing.{refused_keeps}
use Rattle.machine.proofs.Runs.{stays_sound_lem, every_call_moves}
use Rattle.machine.proofs.soundness.stays_sound.Goals as goal

pub returns : goal.returns
returns c = record { sound = stays_sound_lem; moves = every_call_moves; refused = refused_keeps; examples = published_examples }
