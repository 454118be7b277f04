-- Ticks of the room, and readings of a host's clock.
use Rattle.std.specs.Prelude.{◌≡◌, ℕ, ◌-◌, ◌^◌, ◌<◌, min, ℤ, pos, negsuc, ◌+ℤ◌, ◌-ℤ◌, ◌<ℤ◌}

-- a clock reads the tick less its offset
abbrev pub reading_at : ℕ → ℤ → ℤ
reading_at tick offset = pos tick -ℤ offset

-- a number of milliseconds, where it is not below zero
abbrev pub natural : ℤ → ℕ
natural (pos n) = n
natural (negsuc n) = 0

-- the tick at which a clock with this offset reads so, as far as there are ticks
abbrev pub tick_at : ℤ → ℤ → ℕ
tick_at reading offset = min (natural (reading +ℤ offset)) (2 ^ 32 - 1)

pub record ClockLaws : Type 0 where
  -- a tick is found again from its reading
  pub back : (t : ℕ) (offset : ℤ) → t < 2 ^ 32 → tick_at (reading_at t offset) offset ≡ t
  -- two readings of one clock lie as far apart as their ticks, and in the same order
  pub rate : (s t : ℕ) (offset : ℤ) → reading_at t offset -ℤ reading_at s offset ≡ pos t -ℤ pos s
  pub order : (s t : ℕ) (offset : ℤ) → s < t → reading_at s offset <ℤ reading_at t offset
