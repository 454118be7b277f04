-- What stays true of the seats of which one or a row is changed.
use Rattle.std.proofs.Common.{◌≡◌, ℕ, zero, suc, true, List, [], ◌∷◌, get_or, set, replicate, refl}
use Rattle.machine.specs.declared.types.Seat.{Seat}
use Rattle.machine.specs.declared.types.Seat.TheVariants.{Idle}
use Rattle.board.specs.Bounds.{timely, TimelyAll}

-- what holds of every element of a list, and of the new one, holds of every element once one is set
pub set_keeps : {A : Type 0} (P : A → Type 0) (xs : List A) (i : ℕ) (v d : A) → P v → ((j : ℕ) → P (get_or xs j d)) → (j : ℕ) → P (get_or (set xs i v) j d)
set_keeps P [] i v d new all j = all j
set_keeps P (x ∷ xs) zero v d new all zero = new
set_keeps P (x ∷ xs) zero v d new all (suc j) = all (suc j)
set_keeps P (x ∷ xs) (suc i) v d new all zero = all zero
set_keeps P (x ∷ xs) (suc i) v d new all (suc j) = set_keeps P xs i v d new (λ k. all (suc k)) j

-- where one seat is changed
pub timely_set : (rows : List (List Seat)) (h r : ℕ) (x : Seat) → timely x ≡ true → TimelyAll rows → TimelyAll (set rows h (set (get_or rows h []) r x))
timely_set rows h r x new all =
    set_keeps (λ (row : List Seat). (q : ℕ) → timely (get_or row q Idle) ≡ true) rows h (set (get_or rows h []) r x) []
    (set_keeps (λ (y : Seat). timely y ≡ true) (get_or rows h []) r x Idle new (all h))
    all

-- idle seats are timely
idle_row : (n q : ℕ) → timely (get_or (replicate n Idle) q Idle) ≡ true
idle_row zero q = refl
idle_row (suc n) zero = refl
idle_row (suc n) (suc q) = idle_row n q

-- where all seats of a host become idle
pub timely_row : (rows : List (List Seat)) (h : ℕ) → TimelyAll rows → TimelyAll (set rows h (replicate 8 Idle))
timely_row rows h all = set_keeps (λ (row : List Seat). (q : ℕ) → timely (get_or row q Idle) ≡ true) rows h (replicate 8 Idle) [] (idle_row 8) all
