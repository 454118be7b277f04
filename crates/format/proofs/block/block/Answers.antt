use Rattle.std.proofs.Common.{◌≡◌, ℕ, List, ◌++◌, length, replicate, drop, sym, ap, ◌∙◌, rules}
use Rattle.std.proofs.lemmas.List.{take_at, drop_at, append_assoc}
use borrow.Rule.Slice.PartMut.{put_mid}
use Rattle.format.specs.Blocks.{block_of, front_of, sums, sum_bytes}
use Rattle.format.proofs.block.block.Goals as goal

-- four bytes written right behind the first sixteen
laid : (front last rest : List ℕ) → length front ≡ 16 → put_mid 16 4 (front ++ rest) last ≡ front ++ last ++ drop 4 rest
laid front last rest h =
    ap (λ u. u ++ (last ++ drop 4 (drop 16 (front ++ rest)))) (take_at front rest 16 h)
    ∙ ap (λ u. front ++ (last ++ drop 4 u)) (drop_at front rest 16 h)
    ∙ sym (append_assoc front last (drop 4 rest))

pub returns : goal.returns
unfolding block_of
returns c =
    let front = front_of c.args.lease in
    let last = sum_bytes (sums front 0 0) in
    let rest : List ℕ = replicate 496 0 in
    let f : c.copy_from_slice.new.self ≡ front = search rules in
    let s : c.copy_from_slice-2.new.self ≡ last = search rules in
    laid c.copy_from_slice.new.self c.copy_from_slice-2.new.self rest (ap length f)
    ∙ ap (λ u. u ++ c.copy_from_slice-2.new.self ++ drop 4 rest) f
    ∙ ap (λ u. front ++ u ++ drop 4 rest) s
