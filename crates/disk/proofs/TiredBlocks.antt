-- The blocks of a tired image, and what an access of one leaves.
use Rattle.std.proofs.Common.{◌≡◌, ℕ, ◌+◌, ◌-◌, ◌*◌, ◌<◌, ◌≤◌, min, true, false, List, [], map, length, drop, set, replicate, Err, sym, refl, ap, ◌∙◌, arith, length-set, get_or-set_other, get_or-set_same, drop-set-lt}
use native.Mathlib.Bridge.{le_prop}
use mathlib.Core.HLevel.{is_prop→PathP}
use Rattle.std.specs.List.{range_with_len}
use Rattle.disk.specs.declared.tally.Tally.{Tally}
use Rattle.disk.specs.declared.fault.Refusal.TheVariants.{AccessFailed}
use Rattle.disk.specs.Model.{Block, DiskModel, Outside, block, with_block, after_failure, after_success, access_answer, after_access, after_read, area_after_read}
use Rattle.disk.specs.Images.{block_bytes, overwritten, whole_blocks, plain, plain_block, plain_outside, tired, tired_block, tired_count, tired_outside}
use Rattle.disk.specs.Bounds.{count_plain, block_plain, plain_bounds, count_tired, block_tired}
use Rattle.disk.specs.Tallies.{tally, zero_tally, exhausted, tally_after}
use Rattle.disk.proofs.Accesses.{Admitted, reached}
use Rattle.disk.proofs.ImageBlocks.{changed_at, block_overwritten, block_kept, tail_kept, same_count, plain_written, plain_outside_kept, same_bytes}

-- two tallies with the same numbers are the same
pub same_tally : (a b : Tally) → a.good ≡ b.good → a.due ≡ b.due → a ≡ b
same_tally a b p q =
    λ i.
    record {
      good = p i;
      due = q i;
      good_fits = is_prop→PathP (λ j. p j ≤ 65535) (λ j. le_prop {n = p j} {m = 65535}) a.good_fits b.good_fits i;
      due_fits = is_prop→PathP (λ j. q j ≤ 65535) (λ j. le_prop {n = q j} {m = 65535}) a.due_fits b.due_fits i;
    }

-- the tally that an access which fails leaves, and one which succeeds
pub failing_leaves : (t x : Tally) → exhausted t ≡ true → x.good ≡ t.good → x.due ≡ t.due - 1 → x ≡ tally_after t
failing_leaves t x e p q = rw e (same_tally x _ p q)

pub passing_leaves : (t x : Tally) → exhausted t ≡ false → x.good ≡ t.good - 1 → x.due ≡ t.due → x ≡ tally_after t
passing_leaves t x e p q = rw e (same_tally x _ p q)

-- the block that these bytes and this tally make
made : List ℕ → ℕ → Tally → Block
made bytes n t = record { bytes = bytes; good = t.good; due = t.due; home = n }

counted : (ℕ → Block) → ℕ → DiskModel
counted f k = record { height = 0; blocks = map f (range_with_len 0 k) }

outside_of : List ℕ → List Tally → Outside
outside_of l ts = record { bytes = l; tallies = ts; blocks = [] }

-- an access of block n is counted, and the bytes become `new`
module _ (bytes : List ℕ) (tallies : List Tally) (n : ℕ) (h : n < tired_count bytes tallies) where
  after : List Tally
  after = set tallies n (tally_after (tally tallies n))

  same_length : length after ≡ length tallies
  unfolding after
  same_length = length-set tallies n (tally_after (tally tallies n))

  tally_kept : (i : ℕ) → (i ≡ n → ⊥) → tally after i ≡ tally tallies i
  unfolding after
  tally_kept i ne = get_or-set_other tallies n i (tally_after (tally tallies n)) zero_tally ne

  tally_counted : tally after n ≡ tally_after (tally tallies n)
  unfolding after
  tally_counted = get_or-set_same tallies n (tally_after (tally tallies n)) zero_tally (omega arith)

  module _ (new : List ℕ) (same_count : whole_blocks new ≡ whole_blocks bytes) where
    with_tired : ((i : ℕ) → (i ≡ n → ⊥) → block_bytes new i ≡ block_bytes bytes i) → with_block (tired bytes tallies) n (tired_block new after n) ≡ tired new after
    unfolding made counted
    with_tired kept =
        ap (λ l. record { height = 0; blocks = l })
        (sym (changed_at (tired_block bytes tallies) (tired_block new after) (tired_count bytes tallies) n
        (λ i ne. ap (λ y. made y i (tally after i)) (kept i ne) ∙ ap (made (block_bytes bytes i) i) (tally_kept i ne))))
        ∙ ap (λ k. counted (tired_block new after) (min k (length tallies))) (sym same_count)
        ∙ ap (λ k. counted (tired_block new after) (min (whole_blocks new) k)) (sym same_length)

    with_outside : drop (tired_count bytes tallies * 512) new ≡ drop (tired_count bytes tallies * 512) bytes → tired_outside new after ≡ tired_outside bytes tallies
    unfolding after outside_of
    with_outside tail =
        ap (λ k. outside_of (drop (min k (length after) * 512) new) (drop (min k (length after)) after)) same_count
        ∙ ap (λ k. outside_of (drop (min (whole_blocks bytes) k * 512) new) (drop (min (whole_blocks bytes) k) after)) same_length
        ∙ ap (λ l. outside_of l (drop (tired_count bytes tallies) after)) tail
        ∙ ap (outside_of (drop (tired_count bytes tallies * 512) bytes)) (drop-set-lt (tired_count bytes tallies) tallies n (tally_after (tally tallies n)) h)

  block_failed : exhausted (tally tallies n) ≡ true → after_failure (tired_block bytes tallies n) ≡ tired_block bytes after n
  unfolding made
  block_failed e =
      let left : made (block_bytes bytes n) n (tally_after (tally tallies n)) ≡ after_failure (tired_block bytes tallies n) = rw e in
      sym left ∙ ap (made (block_bytes bytes n) n) (sym tally_counted)

  module _ (area : List ℕ) (s : length area ≡ 512) where
    in_bytes : n * 512 + 512 ≤ length bytes
    in_bytes = omega arith

    block_written : exhausted (tally tallies n) ≡ false → after_success (tired_block bytes tallies n) area ≡ tired_block (overwritten bytes n area) after n
    unfolding made
    block_written e =
        let left : made area n (tally_after (tally tallies n)) ≡ after_success (tired_block bytes tallies n) area = rw e in
        sym left ∙ ap (made area n) (sym tally_counted) ∙ ap (λ y. made y n (tally after n)) (sym (block_overwritten bytes area n in_bytes s))

    in_count : n < whole_blocks bytes
    in_count = omega arith

    pub tired_written : exhausted (tally tallies n) ≡ false → with_block (tired bytes tallies) n (after_success (tired_block bytes tallies n) area) ≡ tired (overwritten bytes n area) (set tallies n (tally_after (tally tallies n)))
    unfolding after
    tired_written e =
        ap (with_block (tired bytes tallies) n) (block_written e)
        ∙ with_tired (overwritten bytes n area) (same_count bytes n area s in_count) (block_kept bytes area n in_bytes s)

    pub written_outside_kept : tired_outside (overwritten bytes n area) (set tallies n (tally_after (tally tallies n))) ≡ tired_outside bytes tallies
    unfolding after
    written_outside_kept =
        with_outside (overwritten bytes n area) (same_count bytes n area s in_count) (tail_kept bytes area n in_bytes s (tired_count bytes tallies) h)

-- an access that the tally lets fail
pub record Failed (bytes : List ℕ) (tallies : List Tally) (n size : ℕ) (area : List ℕ) : Type 0 where
  pub answer_is : access_answer (tired bytes tallies) n size ≡ Err (record { cause = AccessFailed; number = n; height = 0 })
  pub disk_is : after_access (tired bytes tallies) n size area ≡ tired bytes (set tallies n (tally_after (tally tallies n)))
  pub area_is : area_after_read (tired bytes tallies) n size ≡ replicate size 0
  pub outside_is : tired_outside bytes (set tallies n (tally_after (tally tallies n))) ≡ tired_outside bytes tallies

-- an access that it lets pass, of the image over the bytes, which become `new`
pub record Passed (bytes : List ℕ) (tallies : List Tally) (n size : ℕ) (area new : List ℕ) : Type 0 where
  pub answer_is : access_answer (tired bytes tallies) n size ≡ access_answer (plain bytes) n size
  pub disk_is : after_access (tired bytes tallies) n size area ≡ tired new (set tallies n (tally_after (tally tallies n)))
  pub area_is : area_after_read (tired bytes tallies) n size ≡ area_after_read (plain bytes) n size
  pub outside_is : tired_outside new (set tallies n (tally_after (tally tallies n))) ≡ tired_outside bytes tallies

module _ (bytes : List ℕ) (tallies : List Tally) (n size : ℕ) (a : Admitted (tired bytes tallies) n size) where
  pub below_count : n < tired_count bytes tallies
  below_count = omega (arith, a.within, count_tired bytes tallies)

  b : block (tired bytes tallies) n ≡ tired_block bytes tallies n
  b = block_tired bytes tallies n a.within

  pub failed : (area : List ℕ) → exhausted (tally tallies n) ≡ true → Failed bytes tallies n size area
  unfolding after
  failed area e =
      let r = reached (tired bytes tallies) n size area (tired_block bytes tallies n) a b in
      let answered = rw e at r.answer_is in
      let left = rw e at r.disk_is in
      let filled = rw e at r.area_is in
      record {
        answer_is = answered;
        disk_is = left ∙ ap (with_block (tired bytes tallies) n) (block_failed bytes tallies n below_count e) ∙ with_tired bytes tallies n below_count bytes refl (λ i ne. refl);
        area_is = filled;
        outside_is = with_outside bytes tallies n below_count bytes refl refl;
      }

  admitted_below : Admitted (plain bytes) n size
  admitted_below = record { whole = a.whole; within = omega (arith, below_count, count_plain bytes) }

  pub passed : (area new : List ℕ) → length area ≡ 512 → exhausted (tally tallies n) ≡ false → plain new ≡ after_access (plain bytes) n size area → plain_outside new ≡ plain_outside bytes → Passed bytes tallies n size area new
  unfolding after
  passed area new s e d o =
      let r = reached (tired bytes tallies) n size area (tired_block bytes tallies n) a b in
      let low = reached (plain bytes) n size area (plain_block bytes n) admitted_below (block_plain bytes n admitted_below.within) in
      let l : n < whole_blocks bytes = omega (arith, below_count) in
      let same : new ≡ overwritten bytes n area = same_bytes new (overwritten bytes n area) (d ∙ low.disk_is ∙ plain_written bytes n area s l) (o ∙ sym (plain_outside_kept bytes n area s l)) in
      let answered = rw e at r.answer_is in
      let left = rw e at r.disk_is in
      let filled = rw e at r.area_is in
      rw same
      (record {
        answer_is = answered ∙ sym low.answer_is;
        disk_is = left ∙ tired_written bytes tallies n below_count area s e;
        area_is = filled ∙ sym low.area_is;
        outside_is = written_outside_kept bytes tallies n below_count area s;
      })

  -- the same of a read
  pub read_passed : (new : List ℕ) → exhausted (tally tallies n) ≡ false → plain new ≡ after_read (plain bytes) n size → plain_outside new ≡ plain_outside bytes → Passed bytes tallies n size (block (tired bytes tallies) n).bytes new
  read_passed new e d o =
      let own : (block (plain bytes) n).bytes ≡ (block (tired bytes tallies) n).bytes = ap (λ x. x.bytes) (block_plain bytes n admitted_below.within) ∙ ap (λ x. x.bytes) (sym b) in
      rw (← own) (passed (block (plain bytes) n).bytes new ((plain_bounds bytes).whole n admitted_below.within) e d o)
