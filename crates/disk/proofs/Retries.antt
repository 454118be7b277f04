-- Tries on the disk below, against one call on the layer.
use Rattle.std.proofs.Common.{◌≡◌, ℕ, ◌+◌, ◌-◌, ◌/◌, ◌<◌, ◌≤◌, Bool, true, false, cond, ◌&&◌, eqb, ltb, List, replicate, is_ok, Ok, Err, Result, sym, refl, ap, ◌∙◌, ⊎_elim, arith, length, length-append, length-set, get_or-set_same}
use native.Mathlib.Nat.{div-eq_of_lt, div-eq-sub-div}
use Rattle.std.specs.List.{FoldsTo}
use Rattle.std.proofs.lemmas.Fn.{chained_keeps}
use Rattle.std.proofs.lemmas.List.{set-set, set-get_or, map-set}
use Rattle.std.proofs.lemmas.Bool.{cases_eq, cases_lt, and_parts, and_cases, and_left, and_right, and_from, ltb-true, ltb-false, eqb-true, eqb-false, lt-ltb, le-ltb, ne_eqb, both_ways}
use Rattle.disk.specs.declared.fault.Fault.{Fault}
use Rattle.disk.specs.Model.{Block, DiskModel, count, block, no_block, with_block, fails, failure, after_failure, after_success, access_answer, after_access, area_after_read}
use Rattle.disk.specs.Layers.{retried_block, retried}
use Rattle.disk.specs.Tries.{FailedCall, Tried}
use Rattle.disk.specs.Bounds.{count_retried, block_retried}
use Rattle.disk.proofs.Accesses.{Admitted, Reached, reached}

-- the numbers: a call that succeeds before the tries are spent, and one that fails at the last
quiet : (good due k tries : ℕ) → k < tries → k ≤ due → (0 < k → good ≡ 0) → (eqb good 0 && ltb 0 (due - k)) ≡ false → ((eqb good 0 && ltb 0 (due / tries)) ≡ false) × ((due - k) / tries ≡ due / tries)
quiet good due k tries lt low spent e =
    ⊎_elim
    (λ z.
    let small : due ≤ k = ⊎_elim (λ no. absurd (eqb-false good 0 no z)) (λ no. omega (arith, ltb-false 0 (due - k) no)) (and_cases (eqb good 0) (ltb 0 (due - k)) e) in
    let none : due / tries ≡ 0 = div-eq_of_lt (omega arith) in
    let left : (due - k) / tries ≡ 0 = div-eq_of_lt (omega arith) in
    (and_right (eqb good 0) (ltb 0 (due / tries)) (le-ltb 0 (due / tries) (omega arith)), left ∙ sym none))
    (λ nz.
    let first : k ≡ 0 = ⊎_elim (λ p. absurd (nz (spent p))) (λ p. omega arith) (cases_lt 0 k) in
    let same : due - k ≡ due = omega arith in
    (and_left (eqb good 0) (ltb 0 (due / tries)) (ne_eqb good 0 nz), ap (λ x. x / tries) same))
    (cases_eq good 0)

loud : (good due k tries : ℕ) → k + 1 ≡ tries → (eqb good 0 && ltb 0 (due - k)) ≡ true → ((eqb good 0 && ltb 0 (due / tries)) ≡ true) × ((due - k - 1) / tries ≡ due / tries - 1)
loud good due k tries last e =
    let parts = and_parts (eqb good 0) (ltb 0 (due - k)) e in
    let height_above = ltb-true 0 (due - k) parts.1 in
    let split : due / tries ≡ (due - tries) / tries + 1 = div-eq-sub-div (omega arith) (omega arith) in
    let same : due - k - 1 ≡ due - tries = omega arith in
    (and_from (eqb good 0) (ltb 0 (due / tries)) parts.0 (lt-ltb 0 (due / tries) (omega arith)), ap (λ x. x / tries) same ∙ omega arith)

-- a block after k calls that fail
abbrev pub spent : Block → ℕ → Block
spent b k = record { bytes = b.bytes; good = b.good; due = b.due - k; home = b.home }

-- the disk x is m after k calls on block n that fail
pub record Spent (m : DiskModel) (n k : ℕ) (x : DiskModel) : Type 0 where
  pub disk : x ≡ with_block m n (spent (block m n) k)
  pub low : k ≤ (block m n).due
  pub bad : 0 < k → (block m n).good ≡ 0

as_block : List ℕ → ℕ → ℕ → ℕ → Block
as_block bytes good due home = record { bytes = bytes; good = good; due = due; home = home }

pub none_spent : (m : DiskModel) (n : ℕ) → Spent m n 0 m
unfolding as_block
none_spent m n =
    let b = block m n in
    let full : b.due ≡ b.due - 0 = omega arith in
    record {
      disk = sym (ap (λ l. record { height = m.height; blocks = l }) (set-get_or m.blocks n no_block)) ∙ ap (λ d. with_block m n (as_block b.bytes b.good d b.home)) full;
      low = omega arith;
      bad = λ p. omega arith;
    }

-- the access answer of a call tells whether the block fails
failed_by : (b : Block) (r : Result (Unit {0}) Fault) (t : Bool) → r ≡ cond t (Err (failure b)) (Ok tt) → is_ok r ≡ false → t ≡ true
failed_by b r true e i = refl
failed_by b r false e i = absurd (both_ways (is_ok r) i (ap is_ok e))

module _ (m : DiskModel) (n : ℕ) (h : n < count m) where
  count_spent : (k : ℕ) (x : DiskModel) → Spent m n k x → n < count x
  count_spent k x p =
      rw p.disk (omega (arith, length-set m.blocks n (spent (block m n) k)))

  block_spent : (k : ℕ) (x : DiskModel) → Spent m n k x → block x n ≡ spent (block m n) k
  block_spent k x p = ap (λ y. block y n) p.disk ∙ get_or-set_same m.blocks n (spent (block m n) k) no_block h

  again : (k : ℕ) (x : DiskModel) → Spent m n k x → (y : Block) → with_block x n y ≡ with_block m n y
  again k x p y =
      ap (λ z. with_block z n y) p.disk
      ∙ ap (λ l. record { height = m.height; blocks = l }) (set-set m.blocks n (spent (block m n) k) y)

  -- one call more that fails
  one_more : (k : ℕ) (x y : DiskModel) → Spent m n k x → fails (spent (block m n) k) ≡ true → y ≡ with_block x n (after_failure (spent (block m n) k)) → Spent m n (k + 1) y
  unfolding as_block
  one_more k x y p e i =
      let b = block m n in
      let parts = and_parts (eqb b.good 0) (ltb 0 (b.due - k)) e in
      let less : b.due - k - 1 ≡ b.due - (k + 1) = omega arith in
      record {
        disk = i ∙ again k x p _ ∙ ap (λ d. with_block m n (as_block b.bytes b.good d b.home)) less;
        low = omega (arith, ltb-true 0 (b.due - k) parts.1);
        bad = λ _. eqb-true b.good 0 parts.0;
      }

  with_retried : (tries : ℕ) (y : Block) → with_block (retried tries m) n (retried_block tries y) ≡ retried tries (with_block m n y)
  with_retried tries y = ap (λ l. record { height = (retried tries m).height; blocks = l }) (sym (map-set (retried_block tries) m.blocks n y))

  -- the last call that is made below gives the layer's access answer and leaves what the layer leaves
  record Level (tries k : ℕ) (bytes : List ℕ) : Type 0 where
    pub fails_is : fails (retried_block tries (block m n)) ≡ fails (spent (block m n) k)
    pub block_is : cond (fails (retried_block tries (block m n))) (after_failure (retried_block tries (block m n))) (after_success (retried_block tries (block m n)) bytes) ≡ retried_block tries (cond (fails (spent (block m n) k)) (after_failure (spent (block m n) k)) (after_success (spent (block m n) k) bytes))

  level_quiet : (tries k : ℕ) (x : DiskModel) (bytes : List ℕ) → Spent m n k x → k < tries → fails (spent (block m n) k) ≡ false → Level tries k bytes
  unfolding as_block
  level_quiet tries k x bytes p lt e =
      let b = block m n in
      let q = quiet b.good b.due k tries lt p.low p.bad e in
      record {
        fails_is = q.0 ∙ sym e;
        block_is = rw (q.0, e) (ap (λ d. as_block bytes (b.good - 1) d b.home) (sym q.1));
      }

  level_loud : (tries k : ℕ) (bytes : List ℕ) → k + 1 ≡ tries → fails (spent (block m n) k) ≡ true → Level tries k bytes
  unfolding as_block
  level_loud tries k bytes last e =
      let b = block m n in
      let q = loud b.good b.due k tries last e in
      record {
        fails_is = q.0 ∙ sym e;
        block_is = rw (q.0, e) (ap (λ d. as_block b.bytes b.good d b.home) (sym q.1));
      }

  level : (tries k : ℕ) (x : DiskModel) (bytes : List ℕ) (t : Bool) → fails (spent (block m n) k) ≡ t → Spent m n k x → k < tries → (t ≡ true → k + 1 ≡ tries) → Level tries k bytes
  level tries k x bytes true e p lt last = level_loud tries k bytes (last refl) e
  level tries k x bytes false e p lt last = level_quiet tries k x bytes p lt e

-- an access of the layer over m, and the last one below, of x
pub record Through (tries : ℕ) (m : DiskModel) (n size : ℕ) (bytes : List ℕ) (x : DiskModel) : Type 0 where
  pub answer_is : access_answer (retried tries m) n size ≡ access_answer x n size
  pub disk_is : after_access (retried tries m) n size bytes ≡ retried tries (after_access x n size bytes)
  pub area_is : area_after_read (retried tries m) n size ≡ area_after_read x n size
  pub bytes_is : (block (retried tries m) n).bytes ≡ (block m n).bytes
  pub bytes_below : (block x n).bytes ≡ (block m n).bytes

module _ (m : DiskModel) (n size k : ℕ) (bytes : List ℕ) (x : DiskModel) (a : Admitted m n size) (p : Spent m n k x) where
  low : Reached x n size bytes (spent (block m n) k)
  low = reached x n size bytes (spent (block m n) k) (record { whole = a.whole; within = count_spent m n a.within k x p }) (block_spent m n a.within k x p)

  pub next : is_ok (access_answer x n size) ≡ false → Spent m n (k + 1) (after_access x n size bytes)
  next e =
      let t = failed_by (spent (block m n) k) (access_answer x n size) (fails (spent (block m n) k)) low.answer_is e in
      one_more m n a.within k x (after_access x n size bytes) p t
      (low.disk_is ∙ ap (with_block x n) (ap (λ t. cond t (after_failure (spent (block m n) k)) (after_success (spent (block m n) k) bytes)) t))

  through : (tries : ℕ) → Level m n a.within tries k bytes → Through tries m n size bytes x
  through tries l =
      let above : n < count (retried tries m) = omega (arith, a.within, count_retried tries m) in
      let top = reached (retried tries m) n size bytes (retried_block tries (block m n)) (record { whole = a.whole; within = above }) (block_retried tries m n a.within) in
      record {
        answer_is = top.answer_is ∙ ap (λ t. cond t (Err (failure (block m n))) (Ok tt)) l.fails_is ∙ sym low.answer_is;
        disk_is =
            top.disk_is ∙ ap (with_block (retried tries m) n) l.block_is ∙ with_retried m n a.within tries _
            ∙ ap (retried tries) (sym (again m n a.within k x p _) ∙ sym low.disk_is);
        area_is = top.area_is ∙ ap (λ t. cond t (replicate size 0) (block m n).bytes) l.fails_is ∙ sym low.area_is;
        bytes_is = ap (λ y. y.bytes) (block_retried tries m n a.within);
        bytes_below = ap (λ y. y.bytes) (block_spent m n a.within k x p);
      }

  -- a call that succeeds, or is the last of the tries
  ending : (tries : ℕ) → k < tries → (r : Result (Unit {0}) Fault) → r ≡ access_answer x n size → (is_ok r ≡ false → k + 1 ≡ tries) → Through tries m n size bytes x
  ending tries lt r i last =
      through tries
      (level m n a.within tries k x bytes (fails (spent (block m n) k)) refl p lt
      (λ t. last (ap is_ok (i ∙ low.answer_is ∙ ap (λ t. cond t (Err (failure (block m n))) (Ok tt)) t))))

-- calls, told by `step`, that are each an access of block n of the disk in their state; `Keeps` tells what they all keep of
-- the state, and `Leaves` what each changes
module _ {F : Type 0} (disk : F → DiskModel) (bytes : F → List ℕ) (Keeps Leaves : F → F → Type 0) (n size : ℕ) (start : F) where
  pub record Access (p : F) (r : Result (Unit {0}) Fault) (q : F) : Type 0 where
    pub answer_is : r ≡ access_answer (disk p) n size
    pub disk_is : disk q ≡ after_access (disk p) n size (bytes p)
    pub keeps : Keeps start q
    pub leaves : Leaves p q

  -- all of them together are an access of the layer; the last one found the state `before`
  pub record Ended (tries : ℕ) (r : Result (Unit {0}) Fault) (left : F) : Type 0 where
    pub before : F
    pub kept : Keeps start before
    pub keeps : Keeps start left
    pub leaves : Leaves before left
    pub answer_is : r ≡ access_answer (retried tries (disk start)) n size
    pub disk_is : retried tries (disk left) ≡ after_access (retried tries (disk start)) n size (bytes before)
    pub area_is : area_after_read (retried tries (disk start)) n size ≡ area_after_read (disk before) n size
    pub bytes_is : (block (retried tries (disk start)) n).bytes ≡ (block (disk before) n).bytes

module _ {F : Type 0} {step : F → Result (Unit {0}) Fault → F → Type 0} (disk : F → DiskModel) (bytes : F → List ℕ) (Keeps Leaves : F → F → Type 0) (n size : ℕ) {start : F} (k : Keeps start start) (each : (p : F) (r : Result (Unit {0}) Fault) (q : F) → Keeps start p → step p r q → Access disk bytes Keeps Leaves n size start p r q) (a : Admitted (disk start) n size) where
  all_failed : (answers : List (Result (Unit {0}) Fault)) (before : F) → FoldsTo (FailedCall step) start answers before → Keeps start before × Spent (disk start) n (length answers) (disk before)
  all_failed answers before f =
      chained_keeps (FailedCall step) (λ xs q. Keeps start q × Spent (disk start) n (length xs) (disk q))
      (λ xs q x v j s.
      let e = each q x v j.0 s.0 in
      let no : is_ok (access_answer (disk q) n size) ≡ false = ap is_ok (sym e.answer_is) ∙ s.1 in
      (e.keeps, rw (length-append, e.disk_is) (next (disk start) n size (length xs) (bytes q) (disk q) a j.1 no)))
      answers start before (k, none_spent (disk start) n) f

  pub ended : (tries : ℕ) {r : Result (Unit {0}) Fault} {left : F} → Tried step tries start r left → Ended disk bytes Keeps Leaves n size start tries r left
  ended tries {r} {left} t =
      let f = all_failed t.answers t.before t.failed in
      let e = each t.before r left f.0 t.last in
      let u = ending (disk start) n size (length t.answers) (bytes t.before) (disk t.before) a f.1 tries t.few r e.answer_is t.spent in
      record {
        before = t.before;
        kept = f.0;
        keeps = e.keeps;
        leaves = e.leaves;
        answer_is = e.answer_is ∙ sym u.answer_is;
        disk_is = ap (retried tries) e.disk_is ∙ sym u.disk_is;
        area_is = u.area_is;
        bytes_is = u.bytes_is ∙ sym u.bytes_below;
      }
