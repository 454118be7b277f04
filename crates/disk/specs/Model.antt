-- What a disk means, and what a read and a write answer and leave.
use Rattle.std.specs.Prelude.{◌≡◌, ℕ, ◌+◌, ◌-◌, ◌<◌, ◌≤◌, min, Bool, true, false, cond, not, ◌&&◌, List, [], length, replicate, Ok, Err, Result, ◌==◌, nat_lt, slice_index_or, slice_set}
use Rattle.disk.specs.declared.fault.Fault.{Fault}
use Rattle.disk.specs.declared.fault.Refusal.TheVariants.{WrongLength, NoSuchBlock, AccessFailed}
use Rattle.disk.specs.declared.tally.Tally.{Tally}
use Rattle.disk.specs.Tallies.{next_fails}

abbrev pub block_length : ℕ
block_length = 512

abbrev pub most_blocks : ℕ
most_blocks = 4096

-- a block: its bytes, its two tallies, and its home, which is its number on the bottom disk
pub record Block : Type 0 where
  pub bytes : List ℕ
  pub good : ℕ
  pub due : ℕ
  pub home : ℕ

-- a disk: how many layers it has below it, and its blocks
pub record DiskModel : Type 0 where
  pub height : ℕ
  pub blocks : List Block

-- what lies below a disk and is none of its blocks: bytes and tallies of an image, blocks that a span leaves out
pub record Outside : Type 0 where
  pub bytes : List ℕ
  pub tallies : List Tally
  pub blocks : List Block

-- what `block` is where there is none
abbrev pub no_block : Block
no_block = record { bytes = []; good = 0; due = 0; home = 0 }

abbrev pub count : DiskModel → ℕ
count m = length m.blocks

abbrev pub block : DiskModel → ℕ → Block
block m n = slice_index_or m.blocks n no_block

abbrev pub with_block : DiskModel → ℕ → Block → DiskModel
with_block m n b = record { height = m.height; blocks = slice_set m.blocks n b }

-- the next access of the block fails
abbrev pub fails : Block → Bool
fails b = next_fails b.good b.due

-- the block after an access that failed, and after one that succeeded and left these bytes
abbrev pub after_failure : Block → Block
after_failure b = record { bytes = b.bytes; good = b.good; due = b.due - 1; home = b.home }

abbrev pub after_success : Block → List ℕ → Block
after_success b bytes = record { bytes = bytes; good = b.good - 1; due = b.due; home = b.home }

-- on a disk of so many blocks, an access of block n with an area of that size comes to a block
abbrev pub admissible : ℕ → ℕ → ℕ → Bool
admissible total n size = size == block_length && nat_lt n total

abbrev pub reaches : DiskModel → ℕ → ℕ → Bool
reaches m n size = admissible (count m) n size

-- the fault of an access that comes to no block: first the area's length counts, then the number
abbrev pub inadmissible : ℕ → ℕ → ℕ → Fault
inadmissible height n size = record { cause = cond (size == block_length) NoSuchBlock WrongLength; number = n; height = height }

-- the fault of an access that fails
abbrev pub failure : Block → Fault
failure b = record { cause = AccessFailed; number = b.home; height = 0 }

-- what is known of an access once its area's length and its number have been looked at
abbrev pub Admission : ℕ → ℕ → ℕ → ℕ → Result (Unit {0}) Fault → Type 0
Admission total height n size (Ok _) = admissible total n size ≡ true
Admission total height n size (Err f) = (admissible total n size ≡ false) × (f ≡ inadmissible height n size)

-- the answer of a read and of a write of block n with an area of that size
unfoldable pub access_answer : DiskModel → ℕ → ℕ → Result (Unit {0}) Fault
access_answer m n size =
    cond (reaches m n size) (cond (fails (block m n)) (Err (failure (block m n))) (Ok tt)) (Err (inadmissible m.height n size))

-- the disk after an access that leaves these bytes in the block if it succeeds
unfoldable pub after_access : DiskModel → ℕ → ℕ → List ℕ → DiskModel
after_access m n size bytes =
    cond (reaches m n size) (with_block m n (cond (fails (block m n)) (after_failure (block m n)) (after_success (block m n) bytes))) m

abbrev pub after_read : DiskModel → ℕ → ℕ → DiskModel
after_read m n size = after_access m n size (block m n).bytes

abbrev pub after_write : DiskModel → ℕ → List ℕ → DiskModel
after_write m n area = after_access m n (length area) area

-- the area after a read: the block's bytes, or zeros
unfoldable pub area_after_read : DiskModel → ℕ → ℕ → List ℕ
area_after_read m n size = cond (reaches m n size && not (fails (block m n))) (block m n).bytes (replicate size 0)

-- the height of a layer over a disk of that height
abbrev pub height_above : ℕ → ℕ
height_above height = min (height + 1) 255

-- the bounds that every disk keeps
pub record Bounds (m : DiskModel) : Type 0 where
  pub low : m.height ≤ 255
  pub few : count m ≤ most_blocks
  pub whole : (n : ℕ) → n < count m → length (block m n).bytes ≡ block_length
  pub good_fits : (n : ℕ) → n < count m → (block m n).good ≤ 65535
  pub due_fits : (n : ℕ) → n < count m → (block m n).due ≤ 65535
