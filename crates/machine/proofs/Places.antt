-- One place of a list is set, and one seat of a room.
use Rattle.std.proofs.Common.{◌≡◌, ℕ, ◌<◌, ◌⊎◌, List, [], length, get_or, set, ap, inl, inr}
use Rattle.std.proofs.lemmas.List.{get_or-set_same, get_or-set_other}
use Rattle.std.proofs.lemmas.Bool.{cases_eq}
use Rattle.machine.specs.declared.types.Seat.{Seat}
use Rattle.machine.specs.declared.types.Seat.TheVariants as seats
use Rattle.machine.specs.Room.{Room, seat_at, with_seat}

-- one place of a list is set
pub at_set : {A : Type 0} (xs : List A) (i : ℕ) (a d : A) → i < length xs → (j : ℕ) → ((j ≡ i) × (get_or (set xs i a) j d ≡ a)) ⊎ ((j ≡ i → ⊥) × (get_or (set xs i a) j d ≡ get_or xs j d))
at_set xs i a d l j = elim (cases_eq j i) [
  | inl e ↦ inl (e, rw e (get_or-set_same xs i a d l))
  | inr n ↦ inr (n, get_or-set_other xs i j a d n)
]

-- what is set says the same as what stood there: so does every place
pub set_same : {A B : Type 0} (f : A → B) (xs : List A) (i : ℕ) (a d : A) → i < length xs → f a ≡ f (get_or xs i d) → (j : ℕ) → f (get_or (set xs i a) j d) ≡ f (get_or xs j d)
set_same f xs i a d l e j = elim (at_set xs i a d l j) [
  | inl p ↦ rw (p.1, p.0) e
  | inr p ↦ ap f p.1
]

-- one seat is set
pub seat_set : (m : Room) (h r : ℕ) (x : Seat) → h < length m.seats → r < length (get_or m.seats h []) → (g q : ℕ) →
    ((g ≡ h) × (q ≡ r) × (seat_at (with_seat m h r x) g q ≡ x)) ⊎ ((g ≡ h → q ≡ r → ⊥) × (seat_at (with_seat m h r x) g q ≡ seat_at m g q))
seat_set m h r x l n g q =
    let row = set (get_or m.seats h []) r x in
    elim (at_set m.seats h row [] l g) [
      | inr e ↦ inr (λ i j. e.0 i, cc)
      | inl e ↦ elim (at_set (get_or m.seats h []) r x seats.Idle n q) [ inl f ↦ inl (e.0, f.0, cc) | inr f ↦ inr (λ i j. f.0 j, cc) ]
    ]
