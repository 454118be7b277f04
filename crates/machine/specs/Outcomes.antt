-- What a call comes to: an answer and the world afterwards; and how it refuses.
use Rattle.std.specs.Prelude.{ℕ, Bool, cond, not, ◌&&◌, List, [], ◌∷◌, length, Ok, Err, Result, ◌==◌, nat_le, nat_lt}
use Rattle.disk.specs.declared.fault.Refusal.{Refusal}
use Rattle.disk.specs.declared.fault.Refusal.TheVariants.{WrongLength, NotOpen, NoSuchHostOrResource, HostDown, LogFull}
use Rattle.disk.specs.declared.fault.Fault.{Fault}
use Rattle.disk.specs.Model.{block_length, height_above}
use Rattle.machine.specs.Room.{Room, World, host_at}

-- a call that answers an A
pub record Outcome (A : Type 0) : Type 0 where
  pub answer : Result A Fault
  pub world : World

-- a fault that the room raises: its height is the disk's plus one
abbrev pub room_fault : Room → Refusal → ℕ → Fault
room_fault m cause number = record { cause = cause; number = number; height = height_above m.disk.height }

-- a call that refuses leaves the world as it was
abbrev pub refused : {A : Type 0} → World → Refusal → ℕ → Outcome A
refused w cause number = record { answer = Err (room_fault w.room cause number); world = w }

-- tests in the order of the rules: the first that holds refuses
abbrev pub gate : Room → List (Bool × Refusal) → Result (Unit {0}) Fault
gate m [] = Ok tt
gate m (x ∷ xs) = cond x.0 (Err (room_fault m x.1 0)) (gate m xs)

-- goes on where a step went well
abbrev pub then : {A : Type 0} → Result (Unit {0}) Fault → World → Outcome A → Outcome A
then (Ok _) w o = o
then (Err f) w o = record { answer = Err f; world = w }

-- refuses by the first test that holds, else comes to o
abbrev pub unless : {A : Type 0} → World → List (Bool × Refusal) → Outcome A → Outcome A
unless w xs o = then (gate w.room xs) w o

-- a call that answers no more than that it was done
abbrev pub done : World → Outcome (Unit {0})
done w = record { answer = Ok tt; world = w }

-- the area is one block long
abbrev pub area_test : List ℕ → Bool × Refusal
area_test area = (not (length area == block_length), WrongLength)

-- the room is open, the host and the resource are there, the host is up
abbrev pub standing : Room → ℕ → ℕ → List (Bool × Refusal)
standing m h r =
    (not m.opened, NotOpen)
    ∷ (not (nat_lt h m.settings.hosts && nat_lt r m.settings.resources), NoSuchHostOrResource)
    ∷ (not (host_at m h).up, HostDown)
    ∷ []

-- there is room for another log entry
abbrev pub log_test : World → Bool × Refusal
log_test w = (nat_le (length w.log) w.room.logged, LogFull)
