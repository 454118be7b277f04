-- Where an entry goes in the lent list, for any schedule.
use Rattle.std.proofs.Common.{◌≡◌, ℕ, suc, ◌+◌, ◌-◌, ◌<◌, ◌≤◌, Bool, true, false, cond, List, [], ◌∷◌, ◌++◌, length, take, drop, set, Some, refl, sym, ap, ap₂, ◌∙◌, arith}
use Rattle.std.specs.List.{insert, prefix_len}
use Rattle.std.proofs.lemmas.List.{take_more_set, take-set-le, take-take, take_at, drop_at, drop-append-le, length-append, length-drop, length-take, length-set}
use Rattle.std.proofs.lemmas.Slice.{between_is, take-put_mid}
use Rattle.queue.specs.Schedule.{Schedule}
use Rattle.queue.specs.Sorted.{placed, take_answer, after_take}

-- an entry that goes behind those at the front that come no later is placed
pub placed_at : {X : Type 0} (s : Schedule X) (e : X) (xs : List X) → insert xs (prefix_len (λ y. s.no_later y e) xs) e ≡ placed s e xs
placed_at s e [] = refl
placed_at s e (x ∷ xs) = step (s.no_later x e) (placed_at s e xs)
  where
    front : ℕ
    front = prefix_len (λ y. s.no_later y e) xs

    step : (b : Bool) → insert xs front e ≡ placed s e xs → insert (x ∷ xs) (cond b (1 + front) 0) e ≡ cond b (x ∷ placed s e xs) (e ∷ x ∷ xs)
    step true rest = let next : 1 + front ≡ suc front = omega arith in rw next (ap (λ ys. x ∷ ys) rest)
    step false rest = refl

-- the last of a list, brought to the front
turned : {X : Type 0} (ms : List X) (e : X) → (let all = ms ++ e ∷ [] in drop (length all - 1) all ++ take (length all - 1) all) ≡ e ∷ ms
turned ms e =
    let long : length (ms ++ e ∷ []) - 1 ≡ length ms = omega (arith, length-append ms (e ∷ [])) in
    rw long (ap₂ ◌++◌ (drop_at ms (e ∷ []) (length ms) refl) (take_at ms (e ∷ []) (length ms) refl))

-- an entry that is written behind the first n and then brought to place i among them
pub brought : {X : Type 0} (xs ys : List X) (i n : ℕ) (e : X) → i ≤ length (take n xs) → n < length xs
    → (let mid = take (n + 1 - i) (drop i (set xs n e)) in ys ≡ drop (length mid - 1) mid ++ take (length mid - 1) mid)
    → take (n + 1) (take i (set xs n e) ++ (ys ++ drop (n + 1 - i) (drop i (set xs n e)))) ≡ insert (take n xs) i e
brought xs ys i n e within room after =
    let low : i ≤ n = omega (arith, length-take n xs) in
    let mid = between_is (set xs n e) i (n + 1) ∙ ap (drop i) (take_more_set xs n e room) ∙ drop-append-le i (take n xs) (e ∷ []) within in
    let front = after ∙ ap (λ ms. drop (length ms - 1) ms ++ take (length ms - 1) ms) mid ∙ turned (drop i (take n xs)) e in
    take-put_mid i (n + 1 - i) (set xs n e) ys (n + 1) (omega (arith, ap length front, length-drop i (take n xs), length-take n xs)) (omega (arith, length-set xs n e))
    ∙ ap₂ ◌++◌ (take-set-le i xs n e low ∙ sym (take-take i n xs low)) front

-- a take that hands out an entry leaves fewer
pub taken_shrinks : {X : Type 0} (s : Schedule X) (t : ℕ) (xs : List X) (x : X) → Some x ≡ take_answer s t xs → length (after_take s t xs) < length xs
taken_shrinks s t [] x e = grind arith
taken_shrinks s t (y ∷ ys) x e = grind arith
