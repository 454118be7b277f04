-- Readings of a host's clock as ticks.
use Rattle.std.proofs.Common.{◌≡◌, ℕ, ◌+◌, ◌<◌, ◌≤◌, false, ℤ, pos, ◌+ℤ◌, ◌-ℤ◌, ◌<ℤ◌, ap, inl, inr, arith}
use lib.Signed.{lt_z, le_z}
use Rattle.std.proofs.lemmas.Bool.{cases_Bool}
use Rattle.format.specs.Times.{natural}
use Rattle.std.proofs.lemmas.Int.{ints}
use Rattle.machine.specs.View.{ticked}

-- z stands for a tick
abbrev pub Ticks : ℤ → ℤ → Type 0
Ticks offset z = z +ℤ offset ≡ pos (ticked offset z)

-- now is the tick
pub now_ticked : (o : ℤ) (t : ℕ) → ticked o (pos t -ℤ o) ≡ t
now_ticked o t = omega (arith, ints)

-- and it stands for one
pub now_ticks : (o : ℤ) (t : ℕ) → Ticks o (pos t -ℤ o)
now_ticks o t = omega (arith, ints)

-- so much later
pub later_ticked : (o z : ℤ) (n : ℕ) → Ticks o z → ticked o (z +ℤ pos n) ≡ ticked o z + n
later_ticked o z n h = omega (arith, ints)

-- and it stands for one
pub later_ticks : (o z : ℤ) (n : ℕ) → Ticks o z → Ticks o (z +ℤ pos n)
later_ticks o z n h = omega (arith, ints)

-- the tick that the log tells
pub log_ticked : (o z : ℤ) → Ticks o z → natural (z +ℤ o) ≡ ticked o z
log_ticked o z h = ap natural h

-- tests
pub not_early : (o z : ℤ) (t n : ℕ) → Ticks o z → lt_z (pos t -ℤ o) (z +ℤ pos n) ≡ false → ticked o z + n ≤ t
not_early o z t n h e = omega (arith, ints)

-- a reading that is not late yet
pub not_late : (o z : ℤ) (t n : ℕ) → Ticks o z → le_z (z +ℤ pos n) (pos t -ℤ o) ≡ false → t < ticked o z + n
not_late o z t n h e = omega (arith, ints)

-- a reading that is not at until yet
pub before_until : (o z : ℤ) (t : ℕ) → Ticks o z → le_z z (pos t -ℤ o) ≡ false → t < ticked o z
before_until o z t h e = omega (arith, ints)

-- a reading that is at until or later
pub past_until : (o z : ℤ) (t : ℕ) → Ticks o z → lt_z (pos t -ℤ o) z ≡ false → ticked o z ≤ t
past_until o z t h e = omega (arith, ints)

-- until is not reached where the clock is below it
pub not_over : (z t : ℤ) → t <ℤ z → le_z z t ≡ false
not_over z t e = elim (cases_Bool (le_z z t)) [ inl y ↦ absurd (omega (arith, ints)) | inr y ↦ y ]

-- and the other way round
pub below_until : (z t : ℤ) → le_z z t ≡ false → t <ℤ z
below_until z t e = omega (arith, ints)

-- a clock below until, by the tick
pub until_tick : (o z : ℤ) (t : ℕ) → Ticks o z → (pos t -ℤ o) <ℤ z → t < ticked o z
until_tick o z t h e = omega (arith, ints)

-- and back
pub tick_until : (o z : ℤ) (t : ℕ) → Ticks o z → t < ticked o z → (pos t -ℤ o) <ℤ z
tick_until o z t h e = omega (arith, ints)
