-- The tallies of a block: the accesses that succeed before those that fail.
use Rattle.std.specs.Prelude.{ℕ, ◌-◌, ◌≤◌, Bool, true, false, ◌&&◌, List, ◌==◌, nat_lt, slice_index_or}
use Rattle.std.proofs.Common.{arith}
use Rattle.disk.specs.declared.tally.Tally.{Tally}

-- with this good and this due tally, the next access fails
abbrev pub next_fails : ℕ → ℕ → Bool
next_fails good due = good == 0 && nat_lt 0 due

-- a number less one is no larger than the number
pub one_less : (n : ℕ) → n ≤ 65535 → n - 1 ≤ 65535
one_less n h = omega arith

abbrev pub zero_tally : Tally
zero_tally = record { good = 0; due = 0; good_fits = omega arith; due_fits = omega arith }

-- the tally of block n
abbrev pub tally : List Tally → ℕ → Tally
tally tallies n = slice_index_or tallies n zero_tally

abbrev pub exhausted : Tally → Bool
exhausted t = next_fails t.good t.due

-- the tally after an access that fails, or succeeds
abbrev pub tally_after_one : Bool → Tally → Tally
tally_after_one true t = record { good = t.good; due = t.due - 1; good_fits = t.good_fits; due_fits = one_less t.due t.due_fits }
tally_after_one false t = record { good = t.good - 1; due = t.due; good_fits = one_less t.good t.good_fits; due_fits = t.due_fits }

abbrev pub tally_after : Tally → Tally
tally_after t = tally_after_one (exhausted t) t
