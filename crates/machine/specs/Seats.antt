-- What the rules look at of a seat, and when two marks or records are the same.
use Rattle.std.specs.Prelude.{ℕ, Bool, true, false, ◌&&◌, ℤ, Some, None, Option, ◌==◌}
use Rattle.format.specs.declared.lease.Kind.{Kind}
use Rattle.format.specs.declared.lease.Kind.TheVariants.{Free, Owned}
use Rattle.format.specs.declared.lease.Mark.{Mark}
use Rattle.format.specs.declared.lease.LeaseRecord.{LeaseRecord}
use Rattle.machine.specs.declared.types.Pending.{Pending}
use Rattle.machine.specs.declared.types.Seat.{Seat}
use Rattle.machine.specs.declared.types.Seat.TheVariants as seats

-- idle or watching
abbrev pub is_vacant : Seat → Bool
is_vacant seats.Idle = true
is_vacant (seats.Watching seen since) = true
is_vacant (seats.Claimed mark term issued) = false
is_vacant (seats.Held term until pending) = false

-- a held lease
pub record Hold : Type 0 where
  pub term : ℕ
  pub until : ℤ
  pub pending : Option Pending

-- the lease of a held seat
abbrev pub hold : Seat → Option Hold
hold seats.Idle = None
hold (seats.Watching seen since) = None
hold (seats.Claimed mark term issued) = None
hold (seats.Held term until pending) = Some (record { term = term; until = until.0; pending = pending })

-- a claim that waits for its check
pub record Claim : Type 0 where
  pub mark : Mark
  pub term : ℕ
  pub issued : ℤ

-- the claim of a claimed seat
abbrev pub claim : Seat → Option Claim
claim seats.Idle = None
claim (seats.Watching seen since) = None
claim (seats.Claimed mark term issued) = Some (record { mark = mark; term = term; issued = issued.0 })
claim (seats.Held term until pending) = None

-- a record that is watched
pub record Watch : Type 0 where
  pub seen : LeaseRecord
  pub since : ℤ

-- the watch of a watching seat
abbrev pub watched : Seat → Option Watch
watched seats.Idle = None
watched (seats.Watching seen since) = Some (record { seen = seen; since = since.0 })
watched (seats.Claimed mark term issued) = None
watched (seats.Held term until pending) = None

-- two marks are the same if owner, generation and stamp are
abbrev pub same_mark : Mark → Mark → Bool
same_mark a b = a.owner == b.owner && (a.generation == b.generation && a.stamp == b.stamp)

-- two kinds are the same
abbrev pub same_kind : Kind → Kind → Bool
same_kind Free Free = true
same_kind Free Owned = false
same_kind Owned Free = false
same_kind Owned Owned = true

-- two records are the same if kind, resource, mark and term are
abbrev pub same_record : LeaseRecord → LeaseRecord → Bool
same_record a b = same_kind a.kind b.kind && (a.resource == b.resource && (same_mark a.mark b.mark && a.term == b.term))
