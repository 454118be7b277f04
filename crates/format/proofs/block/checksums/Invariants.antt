use Rattle.std.proofs.Common.{◌≡◌, ◌<◌, drop}
use Rattle.format.specs.Blocks.{sums}
use Rattle.format.proofs.Sums.{after}
use Rattle.format.proofs.block.checksums.Given as goal

-- the words that are left give the sums of the whole
abbrev pub invariant-loop-word : goal.invariant-loop-word
invariant-loop-word l = (l.s < 65535) × (l.t < 65535) × (after (drop l.word-index l.words) l.s l.t ≡ sums l.front 0 0)
