-- The end of a lease as a tick.
use Rattle.std.proofs.Common.{◌≡◌, ◌+◌, ◌≤◌, true, ℤ, pos, negsuc, ◌+ℤ◌, nat_abs, arith}
use native.Mathlib.Nat.{min-eq_left}
use Rattle.std.proofs.lemmas.Int.{ints}
use Rattle.std.proofs.lemmas.Bool.{leb-true}
use Rattle.format.specs.Times.{natural, tick_at}
use Rattle.format.specs.Offsets.{near}

-- a number is no larger than its distance from zero
natural_le : (z : ℤ) → natural z ≤ nat_abs z
natural_le (pos n) = omega arith
natural_le (negsuc n) = omega arith

-- there is a tick at which the clock of a host reads so
pub until_tick : (until offset : ℤ) → nat_abs until ≤ 87459999 → near offset ≡ true → tick_at until offset ≡ natural (until +ℤ offset)
until_tick until offset l n =
    let off = leb-true (nat_abs offset) 86400000 n in
    let far : nat_abs (until +ℤ offset) ≤ nat_abs until + nat_abs offset = omega (arith, ints) in
    min-eq_left (omega (arith, natural_le (until +ℤ offset)))
