-- Every disk has the history that its tallies tell.
use Rattle.std.proofs.Common.{◌≡◌, ℕ, ◌+◌, ◌-◌, ◌<◌, Bool, true, false, cond, ◌&&◌, eqb, ltb, List, [], ◌∷◌, length, Ok, Err, refl, ap, ◌∙◌, arith, length-set, get_or-set_other, get_or-set_same}
use Rattle.std.proofs.lemmas.Bool.{eqb-true, and_parts, cond_both}
use Rattle.std.proofs.lemmas.Bool.Decides.{nat_tests}
use Rattle.disk.specs.Model.{Block, DiskModel, block_length, count, block, no_block, with_block, fails, failure, after_failure, after_success, reaches, after_access}
use Rattle.disk.specs.Tallies.{next_fails}
use Rattle.disk.specs.History.{Access, read_of, write_of, after_one, after_run, comes_to, arrivals, fails_after, bytes_left, last_written, block_after_run, History}
use Rattle.disk.proofs.Accesses.{reached}

-- the tallies after one access
good_after : ℕ → ℕ → ℕ
good_after good due = cond (next_fails good due) good (good - 1)

due_after : ℕ → ℕ → ℕ
due_after good due = cond (next_fails good due) (due - 1) due

first_fails : (good due : ℕ) → next_fails good due ≡ fails_after good due 0
first_fails good due = grind (arith, nat_tests)

later_fails : (good due k : ℕ) → fails_after (good_after good due) (due_after good due) k ≡ fails_after good due (k + 1)
unfolding good_after due_after
later_fails good due k = grind (arith, nat_tests)

good_on : (good due k : ℕ) → good_after good due - k ≡ good - (k + 1)
unfolding good_after
good_on good due k = grind (arith, nat_tests)

due_on : (good due k : ℕ) → due_after good due - (k - good_after good due) ≡ due - (k + 1 - good)
unfolding good_after due_after
due_on good due k = grind (arith, nat_tests)

window : (good due k : ℕ) → next_fails (good - k) (due - (k - good)) ≡ fails_after good due k
window good due k = grind (arith, nat_tests)

-- the block after one access that comes to it
block_on : Block → List ℕ → Block
block_on b bytes = cond (fails b) (after_failure b) (after_success b bytes)

module _ (m : DiskModel) (n : ℕ) (h : n < count m) where
  hit : (size : ℕ) (bytes : List ℕ) → size ≡ block_length → block (after_access m n size bytes) n ≡ block_on (block m n) bytes
  unfolding block_on
  hit size bytes s =
      ap (λ x. block x n) (reached m n size bytes (block m n) (record { whole = s; within = h }) refl).disk_is
      ∙ get_or-set_same m.blocks n (block_on (block m n) bytes) no_block h

-- an access that does not come to the block leaves it
miss : (m : DiskModel) (n i size : ℕ) (bytes : List ℕ) → (eqb i n && eqb size block_length) ≡ false → block (after_access m i size bytes) n ≡ block m n
unfolding after_access block_on
miss m n i size bytes e =
    cond_both (reaches m i size) (with_block m i (block_on (block m i) bytes)) m (λ x. block x n ≡ block m n)
    (λ t.
    let s = (and_parts (eqb size block_length) (ltb i (count m)) t).0 in
    let other : (n ≡ i → ⊥) = grind (arith, nat_tests) in
    get_or-set_other m.blocks i n (block_on (block m i) bytes) no_block other)
    (λ t. refl)

-- no access changes the height or the count
module _ (m : DiskModel) (i size : ℕ) (bytes : List ℕ) where
  same_height : (after_access m i size bytes).height ≡ m.height
  unfolding after_access block_on
  same_height = cond_both (reaches m i size) (with_block m i (block_on (block m i) bytes)) m (λ x. x.height ≡ m.height) (λ t. refl) (λ t. refl)

  same_count : count (after_access m i size bytes) ≡ count m
  unfolding after_access block_on
  same_count =
      cond_both (reaches m i size) (with_block m i (block_on (block m i) bytes)) m (λ x. count x ≡ count m)
      (λ t. length-set m.blocks i (block_on (block m i) bytes)) (λ t. refl)

-- both as facts of an access as data
height_one : (a : Access) (m : DiskModel) → (after_one a m).height ≡ m.height
height_one (read_of i size) m = same_height m i size (block m i).bytes
height_one (write_of i area) m = same_height m i (length area) area

count_one : (a : Access) (m : DiskModel) → count (after_one a m) ≡ count m
count_one (read_of i size) m = same_count m i size (block m i).bytes
count_one (write_of i area) m = same_count m i (length area) area

block_one : (a : Access) (m : DiskModel) (n : ℕ) → n < count m → (t : Bool) → comes_to n a ≡ t → block (after_one a m) n ≡ cond t (block_on (block m n) (bytes_left a (block m n).bytes)) (block m n)
block_one (read_of i size) m n h true e =
    let p = and_parts (eqb i n) (eqb size block_length) e in
    let same = eqb-true i n p.0 in
    rw same (hit m n h size (block m n).bytes (eqb-true size block_length p.1))
block_one (read_of i size) m n h false e = miss m n i size (block m i).bytes e
block_one (write_of i area) m n h true e =
    let p = and_parts (eqb i n) (eqb (length area) block_length) e in
    let same = eqb-true i n p.0 in
    rw same (hit m n h (length area) area (eqb-true (length area) block_length p.1))
block_one (write_of i area) m n h false e = miss m n i (length area) area e

-- a run that begins after one access more
last_written_on : (n g d g' d' k : ℕ) (bytes : List ℕ) (run : List Access) → ((j : ℕ) → fails_after g' d' j ≡ fails_after g d (j + 1)) → last_written n g' d' k bytes run ≡ last_written n g d (k + 1) bytes run
last_written_on n g d g' d' k bytes [] same = refl
last_written_on n g d g' d' k bytes (a ∷ rest) same =
    rw (same k, last_written_on n g d g' d' (k + 1) (cond (fails_after g d (k + 1)) bytes (bytes_left a bytes)) rest same, last_written_on n g d g' d' k bytes rest same)

as_block : List ℕ → ℕ → ℕ → ℕ → Block
as_block bytes good due home = record { bytes = bytes; good = good; due = due; home = home }

-- the block after one access, by its tallies
on_is : (b : Block) (bytes : List ℕ) → block_on b bytes ≡ as_block (cond (fails_after b.good b.due 0) b.bytes bytes) (good_after b.good b.due) (due_after b.good b.due) b.home
unfolding block_on as_block good_after due_after
on_is b bytes =
    rw (← first_fails b.good b.due)
    (cond_both (fails b) (after_failure b) (after_success b bytes)
    (λ x. x ≡ record { bytes = cond (fails b) b.bytes bytes; good = cond (fails b) b.good (b.good - 1); due = cond (fails b) (b.due - 1) b.due; home = b.home })
    (λ t. rw t) (λ t. rw t))

-- a run that begins with an access of the block
on_run : (n : ℕ) (b : Block) (bytes : List ℕ) (run : List Access)
    → block_after_run n (as_block (cond (fails_after b.good b.due 0) b.bytes bytes) (good_after b.good b.due) (due_after b.good b.due) b.home) run
    ≡ as_block (last_written n b.good b.due 1 (cond (fails_after b.good b.due 0) b.bytes bytes) run) (b.good - (arrivals n run + 1)) (b.due - (arrivals n run + 1 - b.good)) b.home
unfolding as_block
on_run n b bytes run =
    rw (
      last_written_on n b.good b.due (good_after b.good b.due) (due_after b.good b.due) 0 (cond (fails_after b.good b.due 0) b.bytes bytes) run (later_fails b.good b.due),
      good_on b.good b.due (arrivals n run),
      due_on b.good b.due (arrivals n run),
    )

begins : (a : Access) (run : List Access) (m : DiskModel) (n : ℕ) → n < count m → (t : Bool) → comes_to n a ≡ t → block_after_run n (block (after_one a m) n) run ≡ block_after_run n (block m n) (a ∷ run)
unfolding as_block
begins a run m n h true e =
    ap (λ b. block_after_run n b run) (block_one a m n h true e ∙ on_is (block m n) (bytes_left a (block m n).bytes))
    ∙ on_run n (block m n) (bytes_left a (block m n).bytes) run
    ∙ rw e
begins a run m n h false e = ap (λ b. block_after_run n b run) (block_one a m n h false e) ∙ rw e

block_run : (run : List Access) (m : DiskModel) (n : ℕ) → n < count m → block (after_run run m) n ≡ block_after_run n (block m n) run
unfolding as_block
block_run [] m n h =
    let b = block m n in
    let good : b.good ≡ b.good - 0 = omega arith in
    let due : b.due ≡ b.due - (0 - b.good) = omega arith in
    ap (λ g. as_block b.bytes g b.due b.home) good ∙ ap (λ d. as_block b.bytes (b.good - 0) d b.home) due
block_run (a ∷ run) m n h = block_run run (after_one a m) n (omega (arith, count_one a m)) ∙ begins a run m n h (comes_to n a) refl

height_run : (run : List Access) (m : DiskModel) → (after_run run m).height ≡ m.height
height_run [] m = refl
height_run (a ∷ run) m = height_run run (after_one a m) ∙ height_one a m

count_run : (run : List Access) (m : DiskModel) → count (after_run run m) ≡ count m
count_run [] m = refl
count_run (a ∷ run) m = count_run run (after_one a m) ∙ count_one a m

pub history : (m : DiskModel) → History m
history m run =
    record {
      height_is = height_run run m;
      count_is = count_run run m;
      block_is = block_run run m;
      answer_is = λ n h.
          (reached (after_run run m) n block_length [] (block_after_run n (block m n) run) (record { whole = refl; within = omega (arith, count_run run m) }) (block_run run m n h)).answer_is
          ∙ ap (λ t. cond t (Err (failure (block m n))) (Ok tt)) (window (block m n).good (block m n).due (arrivals n run));
    }
