-- Log entries as lines of text.
use Rattle.std.specs.Prelude.{◌≡◌, ℕ, Bool, true, false, cond, ◌&&◌, List, [], ◌∷◌, ◌++◌, ℤ, Ok, Err, codes, decimal, Result, ◌==◌, nat_le}
use Rattle.disk.specs.declared.fault.Refusal.{Refusal}
use Rattle.disk.specs.declared.fault.Refusal.TheVariants.{NotALine}
use Rattle.format.specs.declared.events.Event.{Event}
use Rattle.format.specs.declared.events.Event.TheVariants.{Granted, Renewed, Released, Expired, Crashed}
use Rattle.format.specs.declared.events.LogEntry.{LogEntry}
use Rattle.format.specs.Texts.{spaced, number_or_dash}
use Rattle.format.specs.Offsets.{near, offset_text}

-- the word of each event
abbrev pub event_word : Event → List ℕ
event_word Granted = codes "granted"
event_word Renewed = codes "renewed"
event_word Released = codes "released"
event_word Expired = codes "expired"
event_word Crashed = codes "crashed"

-- resource and term apply to every event of a lease, until only where one begins
abbrev pub has_lease : Event → Bool
has_lease Granted = true
has_lease Renewed = true
has_lease Released = true
has_lease Expired = true
has_lease Crashed = false

abbrev pub has_until : Event → Bool
has_until Granted = true
has_until Renewed = true
has_until Released = false
has_until Expired = false
has_until Crashed = false

-- a number from low to high where it applies, else 0
abbrev pub fits_field : Bool → ℕ → ℕ → ℕ → Bool
fits_field applies low high n = cond applies (nat_le low n && nat_le n high) (n == 0)

-- every field is in range, and the offset too
abbrev pub printable : LogEntry → ℤ → Bool
printable e offset =
    nat_le e.tick.0 999999
    && nat_le e.host 15
    && fits_field (has_lease e.event) 0 7 e.resource
    && fits_field (has_lease e.event) 1 999999 e.term
    && fits_field (has_until e.event) 1 1999999 e.until.0
    && near offset

-- the line of an entry: its fields and its host's offset, parted by single spaces, ended by a line feed
unfoldable pub line_text : LogEntry → ℤ → List ℕ
line_text e offset =
    spaced (decimal e.tick.0)
    (spaced (event_word e.event)
    (spaced (decimal e.host)
    (spaced (number_or_dash (has_lease e.event) e.resource)
    (spaced (number_or_dash (has_lease e.event) e.term)
    (spaced (number_or_dash (has_until e.event) e.until.0) (offset_text offset ++ 10 ∷ []))))))

-- the text is what printing this entry and offset gives
abbrev pub PrintsLine : LogEntry → ℤ → List ℕ → Type 0
PrintsLine e offset text = (printable e offset ≡ true) × (text ≡ line_text e offset)

-- reading answers the one entry and offset that print so, and refuses a text that none do
abbrev pub ReadsLine : List ℕ → Result (LogEntry × ℤ) Refusal → Type 0
ReadsLine text (Ok p) =
    PrintsLine p.0 p.1 text × ((e : LogEntry) (offset : ℤ) → PrintsLine e offset text → (e ≡ p.0) × (offset ≡ p.1))
ReadsLine text (Err refusal) = (refusal ≡ NotALine) × ((e : LogEntry) (offset : ℤ) → PrintsLine e offset text → ⊥)

-- entries or offsets that differ never print the same line
abbrev pub LinesDiffer : Type 0
LinesDiffer = (e f : LogEntry) (o p : ℤ) → printable e o ≡ true → printable f p ≡ true → line_text e o ≡ line_text f p → (e ≡ f) × (o ≡ p)
