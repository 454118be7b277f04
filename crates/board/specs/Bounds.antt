-- The bounds that the tables of a board keep.
use Rattle.std.specs.Prelude.{◌≡◌, ℕ, Bool, true, List, [], get_or, ℤ, Some, None, Option, nat_le, slice_index_or, unsigned_abs}
use Rattle.format.specs.Offsets.{near}
use Rattle.machine.specs.declared.types.Host.{Host}
use Rattle.machine.specs.declared.types.Pending.{Pending}
use Rattle.machine.specs.declared.types.Seat.{Seat}
use Rattle.machine.specs.declared.types.Seat.TheVariants as seats
use Rattle.machine.specs.Room.{no_host}

-- no clock is off by more than a day
abbrev pub NearAll : List Host → Type 0
NearAll hosts = (h : ℕ) → near (get_or hosts h no_host).offset ≡ true

-- a reading that such a clock can show: a day and the last tick
abbrev pub shown : ℤ → Bool
shown z = nat_le (unsigned_abs z) 87399999

-- so is that of a pending renewal
abbrev pub shown_in : Option Pending → Bool
shown_in None = true
shown_in (Some p) = shown p.issued.0

-- so are the readings of a seat from which a wait is counted
abbrev pub timely : Seat → Bool
timely seats.Idle = true
timely (seats.Watching seen since) = shown since.0
timely (seats.Claimed mark term issued) = shown issued.0
timely (seats.Held term until pending) = shown_in pending

-- and so are those of every seat
abbrev pub TimelyAll : List (List Seat) → Type 0
TimelyAll rows = (h r : ℕ) → timely (slice_index_or (slice_index_or rows h []) r seats.Idle) ≡ true
