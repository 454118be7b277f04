use Rattle.std.proofs.Common.{◌≡◌, ◌/◌, length, ap, ◌∙◌, arith, rules}
use Rattle.std.specs.Simd.{first_chunks}
use Rattle.format.proofs.Sums.{after, by_words}
use Rattle.format.proofs.block.checksums.Goals as goal

pub loop-word-init : goal.loop-word-init
loop-word-init c =
    let front = c.args.front.now in
    let long : length front ≡ 16 = search rules in
    let words = c.as_chunks.ensures.front ∙ ap (λ n. first_chunks 2 (n / 2) front) long in
    (omega arith, omega arith, ap (λ ws. after ws 0 0) words ∙ by_words 8 front 0 0 long)
