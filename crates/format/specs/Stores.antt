-- Lease records on a disk: the record of a resource lies in the block of that number.
use Rattle.std.specs.Prelude.{◌≡◌, ℕ, cond, List, Ok, Err, Result, ◌==◌}
use Rattle.disk.specs.declared.fault.Fault.{Fault}
use Rattle.disk.specs.declared.fault.Refusal.{Refusal}
use Rattle.disk.specs.declared.fault.Refusal.TheVariants.{WrongLength}
use Rattle.disk.specs.Model.{DiskModel, block_length, block, height_above, access_answer, area_after_read, after_write}
use Rattle.format.specs.declared.lease.LeaseRecord.{LeaseRecord}
use Rattle.format.specs.Blocks.{block_of, Written, decoded}

-- a refusal at a place
abbrev pub fault_at : Refusal → ℕ → ℕ → Fault
fault_at cause n height = record { cause = cause; number = n; height = height }

abbrev pub placed_at : ℕ → ℕ → Result LeaseRecord Refusal → Result LeaseRecord Fault
placed_at n height (Ok x) = Ok x
placed_at n height (Err cause) = Err (fault_at cause n height)

-- the record that bytes are, or that they are none, told of block n
abbrev pub placed : ℕ → ℕ → List ℕ → Result LeaseRecord Fault
placed n height bytes = placed_at n height (decoded bytes)

-- the first refusal, or else what came after
abbrev pub and_then : Result (Unit {0}) Fault → Result LeaseRecord Fault → Result LeaseRecord Fault
and_then (Ok _) r = r
and_then (Err f) r = Err f

-- the answer of reading the record of resource n
unfoldable pub read_answer : DiskModel → ℕ → ℕ → Result LeaseRecord Fault
read_answer m n size = and_then (access_answer m n size) (placed n (height_above m.height) (area_after_read m n size))

-- the block of resource n can be read, and it is the block that this record writes
abbrev pub Held : DiskModel → ℕ → ℕ → LeaseRecord → Type 0
Held m n size x = (access_answer m n size ≡ Ok tt) × Written x (block m n).bytes

-- the answer of writing a record, and the disk afterwards
unfoldable pub write_answer : DiskModel → LeaseRecord → ℕ → Result (Unit {0}) Fault
write_answer m x size =
    cond (size == block_length) (access_answer m x.resource block_length) (Err (fault_at WrongLength 0 (height_above m.height)))

unfoldable pub after_record : DiskModel → LeaseRecord → ℕ → DiskModel
after_record m x size = cond (size == block_length) (after_write m x.resource (block_of x)) m
