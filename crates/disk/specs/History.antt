-- What any run of accesses leaves of a disk, told by how often a block has been reached.
use Rattle.std.specs.Prelude.{◌≡◌, ℕ, ◌+◌, ◌-◌, ◌<◌, Bool, cond, ◌&&◌, List, [], ◌∷◌, length, Ok, Err, ◌==◌, nat_le, nat_lt}
use Rattle.disk.specs.Model.{Block, DiskModel, block_length, count, block, failure, access_answer, after_read, after_write}

-- a read of a block with an area of a size, or a write of an area to a block
pub data Access : Type 0 where
  read_of : ℕ → ℕ → Access
  write_of : ℕ → List ℕ → Access

abbrev pub after_one : Access → DiskModel → DiskModel
after_one (read_of n size) m = after_read m n size
after_one (write_of n area) m = after_write m n area

abbrev pub after_run : List Access → DiskModel → DiskModel
after_run [] m = m
after_run (a ∷ rest) m = after_run rest (after_one a m)

-- the access comes to block n, where there is one
abbrev pub comes_to : ℕ → Access → Bool
comes_to n (read_of i size) = i == n && size == block_length
comes_to n (write_of i area) = i == n && length area == block_length

-- how many accesses of a run come to block n
abbrev pub arrivals : ℕ → List Access → ℕ
arrivals n [] = 0
arrivals n (a ∷ rest) = cond (comes_to n a) (arrivals n rest + 1) (arrivals n rest)

-- of a block with these tallies, the access after k others fails: the first `good` succeed, the next `due` fail
abbrev pub fails_after : ℕ → ℕ → ℕ → Bool
fails_after good due k = nat_le good k && nat_lt k (good + due)

-- the bytes that a successful access leaves
abbrev pub bytes_left : Access → List ℕ → List ℕ
bytes_left (read_of i size) bytes = bytes
bytes_left (write_of i area) bytes = area

-- the bytes of block n after a run, where k accesses had come to it before: those of the last write that did not fail
abbrev pub last_written : ℕ → ℕ → ℕ → ℕ → List ℕ → List Access → List ℕ
last_written n good due k bytes [] = bytes
last_written n good due k bytes (a ∷ rest) =
    cond (comes_to n a)
    (last_written n good due (k + 1) (cond (fails_after good due k) bytes (bytes_left a bytes)) rest)
    (last_written n good due k bytes rest)

-- block n after a run
abbrev pub block_after_run : ℕ → Block → List Access → Block
block_after_run n b run =
    record {
      bytes = last_written n b.good b.due 0 b.bytes run;
      good = b.good - arrivals n run;
      due = b.due - (arrivals n run - b.good);
      home = b.home;
    }

-- what is known of a disk after a run, and of the answer to the next access of block n
pub record Ran (m : DiskModel) (run : List Access) : Type 0 where
  pub height_is : (after_run run m).height ≡ m.height
  pub count_is : count (after_run run m) ≡ count m
  pub block_is : (n : ℕ) → n < count m → block (after_run run m) n ≡ block_after_run n (block m n) run
  pub answer_is : (n : ℕ) → n < count m
      → access_answer (after_run run m) n block_length
      ≡ cond (fails_after (block m n).good (block m n).due (arrivals n run)) (Err (failure (block m n))) (Ok tt)

-- whatever the accesses
abbrev pub History : DiskModel → Type 0
History m = (run : List Access) → Ran m run
