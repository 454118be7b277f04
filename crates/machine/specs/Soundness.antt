-- What it means that a room is sound, and that every run keeps it so.
use Rattle.std.specs.Prelude.{◌≡◌, ℕ, ◌<◌, Bool, true, false, ◌&&◌, List, [], ◌∷◌, ◌++◌, take, ◌<ℤ◌, Some, Ok, ◌==◌, ◌≢◌}
use Rattle.disk.specs.Model.{DiskModel}
use Rattle.format.specs.declared.clock.Reading.{Reading}
use Rattle.format.specs.declared.events.LogEntry.{LogEntry}
use Rattle.format.specs.declared.events.Event.TheVariants as events
use Rattle.machine.specs.declared.settings.Settings.{Settings}
use Rattle.machine.specs.declared.types.Confirmed.TheVariants.{Stolen}
use Rattle.machine.specs.declared.types.Checked.TheVariants.{Granted}
use Rattle.machine.specs.Room.{Room, World, founded, seat_at, reading}
use Rattle.machine.specs.Seats.{Hold, hold}
use Rattle.machine.specs.Claiming.{check_call}
use Rattle.machine.specs.Holding.{confirm_call, sign_call}
use Rattle.machine.specs.Calls.{Call, check, after}

-- host h validly holds resource r: its seat is held, and its own clock reads less than until
abbrev pub Holds : Room → ℕ → ℕ → Type 0
Holds m h r = (x : Hold) × (hold (seat_at m h r) ≡ Some x) × (reading m h <ℤ x.until)

-- two hosts that validly hold one resource are one host
abbrev pub Exclusive : Room → Type 0
Exclusive m = (r h g : ℕ) → Holds m h r → Holds m g r → h ≡ g

-- call c, made of w, grants resource r with this term
abbrev pub Grants : World → Call → ℕ → ℕ → Type 0
Grants w c r term =
    (h : ℕ) × (area : List ℕ) × (until : Reading) × (c ≡ check h r area) × ((check_call w h r area).answer ≡ Ok (Granted term until))

-- of two grants of one resource in a run, the later term is above the earlier one
abbrev pub Rising : World → Type 0
Rising w =
    (before between : List Call) (first later : Call) (r s t : ℕ)
    → Grants (after w before) first r s
    → Grants (after w (before ++ (first ∷ between))) later r t
    → s < t

-- where a call would grant a resource, nobody validly holds it
abbrev pub VacantBefore : World → Type 0
VacantBefore w = (c : Call) (r t h : ℕ) → Grants w c r t → Holds w.room h r → ⊥

-- an entry ends the lease of h for r
abbrev pub ends : LogEntry → ℕ → ℕ → Bool
ends e h r = elim e.event [
  | events.Granted ↦ false
  | events.Renewed ↦ false
  | events.Released ↦ (e.host == h) && e.resource == r
  | events.Expired ↦ (e.host == h) && e.resource == r
  | events.Crashed ↦ (e.host == h)
]

-- an entry begins or renews a lease of r
abbrev pub begins : LogEntry → ℕ → Bool
begins e r = elim e.event [
  | events.Granted ↦ (e.resource == r)
  | events.Renewed ↦ (e.resource == r)
  | events.Released ↦ false
  | events.Expired ↦ false
  | events.Crashed ↦ false
]

-- in these entries no lease of r begins, and none of h's for r ends
abbrev pub NoneAfter : List LogEntry → ℕ → ℕ → Type 0
NoneAfter [] h r = Unit {0}
NoneAfter (x ∷ xs) h r = (begins x r ≡ false) × (ends x h r ≡ false) × NoneAfter xs h r

-- the log names h for r at tick t: the last entry that begins a lease of r is h's, it lasts beyond t, and nothing ends it
abbrev pub Names : List LogEntry → ℕ → ℕ → ℕ → Type 0
Names log r t h =
    (front : List LogEntry) × (e : LogEntry) × (back : List LogEntry)
    × (log ≡ front ++ (e ∷ back)) × (begins e r ≡ true) × (e.host ≡ h) × (t < e.until.0) × NoneAfter back h r

-- the log is the list up to the count of logged entries
abbrev pub entries : World → List LogEntry
entries w = take w.room.logged w.log

-- at the room's tick the log names h for r exactly when h validly holds r
abbrev pub LogAgrees : World → Type 0
LogAgrees w =
    (r h : ℕ) → (Holds w.room h r → Names (entries w) r w.room.tick h) × (Names (entries w) r w.room.tick h → Holds w.room h r)

-- sign answers a host a term exactly when it validly holds the resource
abbrev pub SignsExactly : Room → Type 0
SignsExactly m = (h r : ℕ) → (Holds m h r → (k : ℕ) × (sign_call m h r ≡ Ok k)) × ((k : ℕ) → sign_call m h r ≡ Ok k → Holds m h r)

-- confirm never answers stolen
abbrev pub NeverStolen : World → Type 0
NeverStolen w = (h r : ℕ) (area : List ℕ) → (confirm_call w h r area).answer ≢ Ok Stolen

-- what holds of a room and its log after every run
pub record Sound (w : World) : Type 0 where
  pub exclusive : Exclusive w.room
  pub vacant : VacantBefore w
  pub agrees : LogAgrees w
  pub signed : SignsExactly w.room
  pub confirmed : NeverStolen w

-- a newly founded room with a list for its log
abbrev pub fresh_world : Settings → DiskModel → List LogEntry → World
fresh_world s d log = record { room = founded s d; log = log }

-- under any settings, above any disk, with any list for the log: every run stays sound, and its grants rise
abbrev pub StaysSound : Type 0
StaysSound =
    (s : Settings) (d : DiskModel) (log : List LogEntry)
    → ((calls : List Call) → Sound (after (fresh_world s d log) calls)) × Rising (fresh_world s d log)
