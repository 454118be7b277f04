-- What a refused call leaves.
use Rattle.std.specs.Prelude.{◌≡◌, ℕ, ◌⊎◌, List, Err}
use Rattle.disk.specs.declared.fault.Fault.{Fault}
use Rattle.disk.specs.Model.{DiskModel, block, count}
use Rattle.format.specs.Blocks.{block_of, founding}
use Rattle.machine.specs.Room.{World, at_room, with_disk}
use Rattle.machine.specs.Calls.{Call, open_room, perform}

-- the disk e is the disk d, but for the tallies and perhaps for the bytes of blocks
pub record SameBlocks (d e : DiskModel) : Type 0 where
  pub height : e.height ≡ d.height
  pub blocks : count e ≡ count d
  pub homes : (r : ℕ) → (block e r).home ≡ (block d r).home

-- every block holds the bytes that it held
abbrev pub SameBytes : DiskModel → DiskModel → Type 0
SameBytes d e = (r : ℕ) → (block e r).bytes ≡ (block d r).bytes

-- every block holds the bytes that it held, or its founding record
abbrev pub Formatted : DiskModel → DiskModel → Type 0
Formatted d e = (r : ℕ) → ((block e r).bytes ≡ (block d r).bytes) ⊎ ((block e r).bytes ≡ block_of (founding r))

-- v is w with another disk in its room, of which this holds
abbrev pub WithDisk : (DiskModel → DiskModel → Type 0) → World → World → Type 0
WithDisk Bytes w v = (e : DiskModel) × SameBlocks w.room.disk e × Bytes w.room.disk e × (v ≡ at_room w (with_disk w.room e))

-- a refused call, made of any world, changes nothing but tallies, and an opening what it has formatted
abbrev pub RefusedKeeps : Type 0
RefusedKeeps =
    (w : World) (c : Call) (f : Fault)
    → (perform c w).answer ≡ Err f
    → WithDisk SameBytes w (perform c w).world ⊎ ((area : List ℕ) × (c ≡ open_room area) × WithDisk Formatted w (perform c w).world)
