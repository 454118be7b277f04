-- What the layers mean, over the meaning of the disk below.
use Rattle.std.specs.Prelude.{ℕ, ◌+◌, ◌/◌, min, max, ◌++◌, map, take, drop}
use Rattle.disk.specs.Model.{Block, DiskModel, Outside, height_above}

-- a span shows blocks b to b+c-1, as far as they exist
abbrev pub spanned : ℕ → ℕ → DiskModel → DiskModel
spanned b c m = record { height = height_above m.height; blocks = take c (drop b m.blocks) }

-- the blocks before and behind these are outside
abbrev pub spanned_outside : ℕ → ℕ → DiskModel → Outside → Outside
spanned_outside b c m o =
    record { bytes = o.bytes; tallies = o.tallies; blocks = take b m.blocks ++ (drop (b + c) m.blocks ++ o.blocks) }

-- a wanted number of tries, brought into 1 to 8
abbrev pub tries_from : ℕ → ℕ
tries_from wanted = max 1 (min wanted 8)

-- a block under so many tries: one failing access of the layer takes that many failures below
abbrev pub retried_block : ℕ → Block → Block
retried_block tries b = record { bytes = b.bytes; good = b.good; due = b.due / tries; home = b.home }

abbrev pub retried : ℕ → DiskModel → DiskModel
retried tries m = record { height = height_above m.height; blocks = map (retried_block tries) m.blocks }
