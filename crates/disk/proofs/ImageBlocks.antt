-- The blocks that lie in a run of bytes, and what a write to one leaves.
use Rattle.std.proofs.Common.{◌≡◌, ℕ, ◌+◌, ◌-◌, ◌*◌, ◌/◌, ◌%◌, ◌<◌, ◌≤◌, min, List, [], ◌++◌, map, length, get_or, take, drop, set, sym, refl, ap, ◌∙◌, ⊎_elim, arith, length-append, length-drop, length-set, length-take, get_or-set_other, get_or-set_same}
use Rattle.std.specs.List.{range_with_len}
use Rattle.std.proofs.lemmas.List.FromFn.{length-map-range_with_len, get_or-map-range_with_len}
use Rattle.std.proofs.lemmas.List.{same_lists, get_or-take, get_or-drop, get_or_append_left, get_or-append_right, take_at, drop_at}
use Rattle.std.proofs.lemmas.Nat.{div-add-mod'}
use Rattle.std.proofs.lemmas.Bool.{cases_eq, cases_lt}
use Rattle.disk.specs.Model.{Block, count, block, with_block, after_success}
use Rattle.disk.specs.Bounds.{count_plain, block_plain}
use Rattle.disk.specs.Images.{block_bytes, overwritten, plain, plain_block, plain_outside, whole_blocks}

-- a list by its indices, changed at one
pub changed_at : {X : Type 0} (f g : ℕ → X) (k n : ℕ) → ((i : ℕ) → (i ≡ n → ⊥) → g i ≡ f i) → map g (range_with_len 0 k) ≡ set (map f (range_with_len 0 k)) n (g n)
changed_at f g k n same =
    same_lists _ _ (length-map-range_with_len g 0 k ∙ sym (length-set (map f (range_with_len 0 k)) n (g n) ∙ length-map-range_with_len f 0 k))
    (λ i d h.
    let lt : i < k = omega (arith, length-map-range_with_len g 0 k) in
    let at = get_or-map-range_with_len g 0 k i i d lt (omega arith) in
    ⊎_elim
    (λ e. rw e (rw e at at ∙ sym (get_or-set_same (map f (range_with_len 0 k)) n (g n) d (omega (arith, e, length-map-range_with_len f 0 k)))))
    (λ ne. at ∙ same i ne ∙ sym (get_or-set_other (map f (range_with_len 0 k)) n i (g n) d ne ∙ get_or-map-range_with_len f 0 k i i d lt (omega arith)))
    (cases_eq i n))

pub length_block : (bytes : List ℕ) (n : ℕ) → n < whole_blocks bytes → length (block_bytes bytes n) ≡ 512
length_block bytes n h = simp (length-take, length-drop) (omega arith)

module _ (bytes area : List ℕ) (n : ℕ) (h : n * 512 + 512 ≤ length bytes) (s : length area ≡ 512) where
  front : length (take (n * 512) bytes) ≡ n * 512
  front = simp length-take (omega arith)

  pub length_overwritten : length (overwritten bytes n area) ≡ length bytes
  length_overwritten = simp (length-append, length-take, length-drop) (omega arith)

  pub block_overwritten : block_bytes (overwritten bytes n area) n ≡ area
  block_overwritten = rw (drop_at (take (n * 512) bytes) (area ++ drop (n * 512 + 512) bytes) (n * 512) front) (take_at area (drop (n * 512 + 512) bytes) 512 s)

  get_or_before : (j d : ℕ) → j < n * 512 → get_or (overwritten bytes n area) j d ≡ get_or bytes j d
  get_or_before j d l =
      get_or_append_left (take (n * 512) bytes) (area ++ drop (n * 512 + 512) bytes) d j (omega (arith, front)) ∙ get_or-take (n * 512) bytes j d l

  get_or_behind : (j d : ℕ) → n * 512 + 512 ≤ j → get_or (overwritten bytes n area) j d ≡ get_or bytes j d
  get_or_behind j d l =
      get_or-append_right (take (n * 512) bytes) (area ++ drop (n * 512 + 512) bytes) (n * 512) j d front (omega arith)
      ∙ get_or-append_right area (drop (n * 512 + 512) bytes) 512 (j - n * 512) d s (omega arith)
      ∙ get_or-drop (n * 512 + 512) bytes (j - n * 512 - 512) d
      ∙ ap (λ i. get_or bytes i d) (omega arith)

  pub block_kept : (k : ℕ) → (k ≡ n → ⊥) → block_bytes (overwritten bytes n area) k ≡ block_bytes bytes k
  block_kept k ne =
      same_lists _ _ (simp (length-take, length-drop, length-append) (omega arith))
      (λ i d l.
      let lt : i < 512 = omega (arith, length-take 512 (drop (k * 512) (overwritten bytes n area))) in
      rw (get_or-take 512 (drop (k * 512) (overwritten bytes n area)) i d lt, get_or-drop, get_or-take 512 (drop (k * 512) bytes) i d lt, get_or-drop)
      (⊎_elim (λ below. get_or_before (k * 512 + i) d (omega arith)) (λ behind. get_or_behind (k * 512 + i) d (omega arith)) (cases_lt k n)))

  -- the bytes behind the first k blocks
  pub tail_kept : (k : ℕ) → n < k → drop (k * 512) (overwritten bytes n area) ≡ drop (k * 512) bytes
  tail_kept k l =
      same_lists _ _ (simp (length-drop, length-append, length-take) (omega arith))
      (λ i d _. rw (get_or-drop, get_or-drop) (get_or_behind (k * 512 + i) d (omega arith)))

-- what an access leaves of a plain image
pub plain_read : (bytes : List ℕ) (n : ℕ) → with_block (plain bytes) n (plain_block bytes n) ≡ plain bytes
plain_read bytes n = ap (λ l. record { height = 0; blocks = l }) (sym (changed_at (plain_block bytes) (plain_block bytes) (whole_blocks bytes) n (λ i ne. refl)))

module _ (bytes : List ℕ) (n : ℕ) (area : List ℕ) (s : length area ≡ 512) (h : n < whole_blocks bytes) where
  in_bytes : n * 512 + 512 ≤ length bytes
  in_bytes = omega arith

  pub same_count : whole_blocks (overwritten bytes n area) ≡ whole_blocks bytes
  same_count = ap (λ k. min (k / 512) 4096) (length_overwritten bytes area n in_bytes s)

  as_block : List ℕ → ℕ → Block
  as_block l i = record { bytes = l; good = 0; due = 0; home = i }

  pub plain_written : with_block (plain bytes) n (after_success (plain_block bytes n) area) ≡ plain (overwritten bytes n area)
  unfolding as_block
  plain_written =
      ap (λ l. record { height = 0; blocks = l })
      (ap (λ l. set (map (plain_block bytes) (range_with_len 0 (whole_blocks bytes))) n (as_block l n)) (sym (block_overwritten bytes area n in_bytes s))
      ∙ sym (changed_at (plain_block bytes) (plain_block (overwritten bytes n area)) (whole_blocks bytes) n (λ i ne. ap (λ l. as_block l i) (block_kept bytes area n in_bytes s i ne)))
      ∙ ap (λ k. map (plain_block (overwritten bytes n area)) (range_with_len 0 k)) (sym same_count))

  pub plain_outside_kept : plain_outside (overwritten bytes n area) ≡ plain_outside bytes
  plain_outside_kept =
      ap (λ l. record { bytes = l; tallies = []; blocks = [] })
      (ap (λ k. drop (k * 512) (overwritten bytes n area)) same_count ∙ tail_kept bytes area n in_bytes s (whole_blocks bytes) h)

-- lent bytes are known by the blocks of the plain image and by its tail
module _ (x y : List ℕ) (p : plain x ≡ plain y) (q : plain_outside x ≡ plain_outside y) where
  as_many : whole_blocks x ≡ whole_blocks y
  as_many = omega (arith, count_plain x, count_plain y, ap count p)

  tails : drop (whole_blocks x * 512) x ≡ drop (whole_blocks y * 512) y
  tails = ap (λ o. o.bytes) q

  blocks : (n : ℕ) → n < whole_blocks x → block_bytes x n ≡ block_bytes y n
  blocks n h =
      ap (λ b. b.bytes)
      (sym (block_plain x n (omega (arith, count_plain x))) ∙ ap (λ m. block m n) p ∙ block_plain y n (omega (arith, count_plain y, as_many)))

  in_block : (l : List ℕ) (i d : ℕ) → get_or (block_bytes l (i / 512)) (i % 512) d ≡ get_or l i d
  in_block l i d =
      get_or-take 512 (drop (i / 512 * 512) l) (i % 512) d (omega arith) ∙ get_or-drop (i / 512 * 512) l (i % 512) d
      ∙ ap (λ j. get_or l j d) (div-add-mod' i 512)

  in_tail : (l : List ℕ) (k i d : ℕ) → k * 512 ≤ i → get_or (drop (k * 512) l) (i - k * 512) d ≡ get_or l i d
  in_tail l k i d h = get_or-drop (k * 512) l (i - k * 512) d ∙ ap (λ j. get_or l j d) (omega arith)

  pub same_bytes : x ≡ y
  same_bytes =
      same_lists x y (omega (arith, as_many, length-drop (whole_blocks x * 512) x, length-drop (whole_blocks y * 512) y, ap length tails))
      (λ i d h.
      ⊎_elim
      (λ inside. sym (in_block x i d) ∙ ap (λ l. get_or l (i % 512) d) (blocks (i / 512) (omega arith)) ∙ in_block y i d)
      (λ behind.
      sym (in_tail x (whole_blocks x) i d behind) ∙ ap (λ l. get_or l (i - whole_blocks x * 512) d) tails
      ∙ ap (λ k. get_or (drop (whole_blocks y * 512) y) (i - k * 512) d) as_many ∙ in_tail y (whole_blocks y) i d (omega (arith, as_many)))
      (cases_lt i (whole_blocks x * 512)))
