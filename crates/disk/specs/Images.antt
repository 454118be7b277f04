-- What the images mean, the disks at the bottom.
use Rattle.std.specs.Prelude.{ℕ, ◌+◌, ◌*◌, ◌/◌, min, List, [], ◌++◌, map, length, take, drop}
use Rattle.std.specs.List.{range_with_len}
use Rattle.disk.specs.declared.tally.Tally.{Tally}
use Rattle.disk.specs.Model.{Block, DiskModel, Outside, block_length, most_blocks}
use Rattle.disk.specs.Tallies.{tally}

-- how many whole blocks the bytes hold, as far as a disk shows them
abbrev pub whole_blocks : List ℕ → ℕ
whole_blocks bytes = min (length bytes / block_length) most_blocks

-- the bytes of block n
abbrev pub block_bytes : List ℕ → ℕ → List ℕ
block_bytes bytes n = take block_length (drop (n * block_length) bytes)

-- all bytes after a write of the area to block n
abbrev pub overwritten : List ℕ → ℕ → List ℕ → List ℕ
overwritten bytes n area = take (n * block_length) bytes ++ (area ++ drop (n * block_length + block_length) bytes)

-- a plain image: its tallies are 0, and every block is at home
abbrev pub plain_block : List ℕ → ℕ → Block
plain_block bytes n = record { bytes = block_bytes bytes n; good = 0; due = 0; home = n }

abbrev pub plain : List ℕ → DiskModel
plain bytes = record { height = 0; blocks = map (plain_block bytes) (range_with_len 0 (whole_blocks bytes)) }

-- its tail
abbrev pub plain_outside : List ℕ → Outside
plain_outside bytes = record { bytes = drop (whole_blocks bytes * block_length) bytes; tallies = []; blocks = [] }

-- a tired image: a block needs its bytes and its tally
abbrev pub tired_count : List ℕ → List Tally → ℕ
tired_count bytes tallies = min (whole_blocks bytes) (length tallies)

abbrev pub tired_block : List ℕ → List Tally → ℕ → Block
tired_block bytes tallies n =
    record { bytes = block_bytes bytes n; good = (tally tallies n).good; due = (tally tallies n).due; home = n }

abbrev pub tired : List ℕ → List Tally → DiskModel
tired bytes tallies =
    record { height = 0; blocks = map (tired_block bytes tallies) (range_with_len 0 (tired_count bytes tallies)) }

-- the bytes and the tallies behind its last block
abbrev pub tired_outside : List ℕ → List Tally → Outside
tired_outside bytes tallies =
    record { bytes = drop (tired_count bytes tallies * block_length) bytes; tallies = drop (tired_count bytes tallies) tallies; blocks = [] }
