-- Whole calls of the rules, as their tests and what follows from what the tests find.
use Rattle.std.proofs.Common.{◌≡◌, ℕ, Bool, List, [], ◌∷◌, Ok, Err, Some, None, Option, Result, refl, ap, ◌∙◌}
use Rattle.std.specs.Option.{ok_or}
use Rattle.disk.specs.declared.fault.Refusal.{Refusal}
use Rattle.disk.specs.declared.fault.Refusal.TheVariants.{NoSuchWrite, WrongSeat}
use Rattle.format.specs.declared.lease.Mark.{Mark}
use Rattle.format.specs.Blocks.{block_of}
use Rattle.machine.specs.declared.types.Flight.{Flight}
use Rattle.machine.specs.declared.types.Pending.{Pending}
use Rattle.machine.specs.Room.{Room, World, at_room, seat_at, with_flights}
use Rattle.machine.specs.Outcomes.{Outcome, area_test, done, gate, refused, room_fault, standing, unless}
use Rattle.machine.specs.Seats.{Claim, Hold, claim, hold}
use Rattle.machine.specs.Steps.{reading_block, writing_block}
use Rattle.machine.specs.Claiming.{check_call, check_tests, checked}
use Rattle.machine.specs.Holding.{confirm_call, sign_by, sign_call, signs}
use Rattle.machine.specs.Writes.{find, land_call, removed}
use Rattle.board.specs.Verdicts.{Renewal, and_then, claim_to_check, confirm_tests, confirmed, land_tests, late, proceed, raised, renewal_to_confirm, term_to_sign, verdict, write_to_land}
use Rattle.board.proofs.Verdicts.{gate_raised, unless_proceeds}

-- something is asked for after tests
asked : {A X : Type 0} (w : World) (xs : List (Bool × Refusal)) (s : Option X) (cause : Refusal) (next : X → Outcome A)
    → unless w xs (elim s [ None ↦ refused w cause 0 | Some x ↦ next x ]) ≡ proceed w (and_then (verdict xs) (λ _. ok_or s cause)) next
asked w xs s cause next = unless_proceeds w xs (elim s [ None ↦ refused w cause 0 | Some x ↦ next x ]) ∙ go (verdict xs) s
  where
    go : (a : Result (Unit {0}) Refusal) (t : Option _) → proceed w a (λ _. elim t [ None ↦ refused w cause 0 | Some x ↦ next x ]) ≡ proceed w (and_then a (λ _. ok_or t cause)) next
    go (Ok u) None = refl
    go (Ok u) (Some x) = refl
    go (Err c) t = refl

-- and tested then
tested : {A Y : Type 0} (w : World) (xs : List (Bool × Refusal)) (y : Y) (next : Y → Outcome A) → unless w xs (next y) ≡ proceed w (and_then (verdict xs) (λ _. Ok y)) next
tested w xs y next = unless_proceeds w xs (next y) ∙ go (verdict xs)
  where
    go : (a : Result (Unit {0}) Refusal) → proceed w a (λ _. next y) ≡ proceed w (and_then a (λ _. Ok y)) next
    go (Ok u) = refl
    go (Err c) = refl

-- check
pub check_joined : (w : World) (h r : ℕ) (area : List ℕ) → check_call w h r area ≡ proceed w (claim_to_check w h r area) (λ x. reading_block w r (checked h r x))
unfolding check_call
check_joined w h r area = unless_proceeds w (area_test area ∷ standing w.room h r) _ ∙ go (verdict (area_test area ∷ standing w.room h r)) (claim (seat_at w.room h r))
  where
    go : (a : Result (Unit {0}) Refusal) (t : Option Claim) → proceed w a (λ _. elim t [ None ↦ refused w WrongSeat 0 | Some x ↦ unless w (check_tests w h x.issued) (reading_block w r (checked h r x)) ])
        ≡ proceed w (and_then a (λ _. and_then (ok_or t WrongSeat) (λ x. and_then (verdict (check_tests w h x.issued)) (λ _. Ok x)))) (λ x. reading_block w r (checked h r x))
    go (Ok u) None = refl
    go (Ok u) (Some x) = tested w (check_tests w h x.issued) x (λ (y : Claim). reading_block w r (checked h r y))
    go (Err c) t = refl

-- confirm
pub confirm_joined : (w : World) (h r : ℕ) (area : List ℕ) → confirm_call w h r area ≡ proceed w (renewal_to_confirm w h r area) (λ x. reading_block w r (confirmed h r x))
unfolding confirm_call
confirm_joined w h r area = unless_proceeds w (area_test area ∷ standing w.room h r) _ ∙ go (verdict (area_test area ∷ standing w.room h r)) (hold (seat_at w.room h r))
  where
    pending : (x : Hold) (t : Option Pending) → elim t [ None ↦ refused w WrongSeat 0 | Some p ↦ unless w (confirm_tests w h x.until) (reading_block w r (confirmed h r (record { term = x.term; pending = p }))) ]
        ≡ proceed w (and_then (ok_or t WrongSeat) (λ p. and_then (verdict (confirm_tests w h x.until)) (λ _. Ok (record { term = x.term; pending = p })))) (λ x. reading_block w r (confirmed h r x))
    pending x None = refl
    pending x (Some p) = tested w (confirm_tests w h x.until) (record { term = x.term; pending = p }) (λ (y : Renewal). reading_block w r (confirmed h r y))

    go : (a : Result (Unit {0}) Refusal) (t : Option Hold)
        → proceed w a (λ _. elim t [ None ↦ refused w WrongSeat 0 | Some x ↦ elim x.pending [ None ↦ refused w WrongSeat 0 | Some p ↦ unless w (confirm_tests w h x.until) (reading_block w r (confirmed h r (record { term = x.term; pending = p }))) ] ])
        ≡ proceed w (and_then a (λ _. and_then (ok_or t WrongSeat) (λ x. and_then (ok_or x.pending WrongSeat) (λ p. and_then (verdict (confirm_tests w h x.until)) (λ _. Ok (record { term = x.term; pending = p }))))))
        (λ x. reading_block w r (confirmed h r x))
    go (Ok u) None = refl
    go (Ok u) (Some x) = pending x x.pending
    go (Err c) t = refl

-- land
pub land_joined : (w : World) (mark : Mark) (area : List ℕ)
    → land_call w mark area ≡ proceed w (write_to_land w.room mark area) (λ f. writing_block w f.body.resource (block_of f.body) (λ v. done (at_room v (with_flights v.room (removed mark v.room.flights)))))
unfolding land_call
land_joined w mark area =
    asked w (land_tests w.room area) (find mark w.room.flights) NoSuchWrite (λ (f : Flight). writing_block w f.body.resource (block_of f.body) (λ v. done (at_room v (with_flights v.room (removed mark v.room.flights)))))

-- sign
pub sign_joined : (m : Room) (h r : ℕ) → sign_call m h r ≡ raised m (term_to_sign m h r)
sign_joined m h r = ap (sign_by m h r) (gate_raised m (standing m h r)) ∙ go (verdict (standing m h r))
  where
    ends : (x : Hold) (a : Result (Unit {0}) Refusal) → signs m h x (raised m a) ≡ raised m (and_then a (λ _. Ok x.term))
    ends x (Ok u) = refl
    ends x (Err c) = refl

    held : (t : Option Hold) → elim t [ None ↦ Err (room_fault m WrongSeat 0) | Some x ↦ signs m h x (gate m (late m h x.until ∷ [])) ] ≡ raised m (and_then (ok_or t WrongSeat) (λ x. and_then (verdict (late m h x.until ∷ [])) (λ _. Ok x.term)))
    held None = refl
    held (Some x) = ap (signs m h x) (gate_raised m (late m h x.until ∷ [])) ∙ ends x (verdict (late m h x.until ∷ []))

    go : (a : Result (Unit {0}) Refusal) → sign_by m h r (raised m a) ≡ raised m (and_then a (λ _. and_then (ok_or (hold (seat_at m h r)) WrongSeat) (λ x. and_then (verdict (late m h x.until ∷ [])) (λ _. Ok x.term))))
    go (Ok u) = held (hold (seat_at m h r))
    go (Err c) = refl
