-- The list that a queue keeps hands out in the order of its schedule, the earlier push first.
use Rattle.std.proofs.Common.{◌≡◌, ℕ, suc, ◌+◌, Bool, true, false, cond, ltb, List, [], ◌∷◌, ◌++◌, length, Some, None, Ok, Err, fold, Option, Result, sym, refl, ap, ◌∙◌, subst, subst₂, arith}
use Rattle.std.specs.List.{AllByRecursion}
use Rattle.std.proofs.lemmas.List.{append-nil, append_assoc}
use Rattle.std.proofs.ByRecursion.{All-append, All-push, All-weaker}
use Rattle.std.proofs.lemmas.List.Sums.{fold_push}
use Rattle.std.proofs.lemmas.Bool.{both_ways, cond_both, false_from_ne_true, ltb-true, ltb-false}
use Rattle.std.proofs.lemmas.Bool.Decides.{nat_tests}
use Rattle.disk.specs.declared.fault.Refusal.{Refusal}
use Rattle.disk.specs.declared.fault.Refusal.TheVariants.{QueueFull}
use Rattle.queue.specs.Schedule.{Schedule, by_tick}
use Rattle.queue.specs.Sorted.{placed, push_answer, after_push, take_answer, after_take}
use Rattle.queue.specs.Waiting.{queue_of, PushOutcome, First, TakeOutcome, PushLaw, TakeLaw}

-- any two entries compare, and an entry is due where a later one is
pub record Lawful {X : Type 0} (s : Schedule X) : Type 0 where
  pub total : (x y : X) → s.no_later x y ≡ false → s.no_later y x ≡ true
  pub transitive : (x y z : X) → s.no_later x y ≡ true → s.no_later y z ≡ true → s.no_later x z ≡ true
  pub due_first : (t : ℕ) (x y : X) → s.no_later x y ≡ true → s.is_due t y ≡ true → s.is_due t x ≡ true

pub by_tick_lawful : {X : Type 0} (tick : X → ℕ) → Lawful (by_tick tick)
by_tick_lawful tick =
    record {
      total = λ x y h. grind (arith, nat_tests);
      transitive = λ x y z h k. grind (arith, nat_tests);
      due_first = λ t x y h k. grind (arith, nat_tests);
    }

module _ {X : Type 0} (s : Schedule X) where
  pub queue_of_push : (waiting : List X) (e : X) → queue_of s (waiting ++ e ∷ []) ≡ placed s e (queue_of s waiting)
  queue_of_push waiting e = fold_push (λ xs x. placed s x xs) [] waiting e

  length_placed : (e : X) (xs : List X) → length (placed s e xs) ≡ suc (length xs)
  length_placed e [] = refl
  length_placed e (x ∷ xs) = cond_both (s.no_later x e) (x ∷ placed s e xs) (e ∷ x ∷ xs) (λ ys. length ys ≡ suc (suc (length xs))) (λ _. ap suc (length_placed e xs)) (λ _. refl)

  length_folded : (xs es : List X) → length (fold (λ ys e. placed s e ys) xs es) ≡ length xs + length es
  length_folded xs [] = omega arith
  length_folded xs (e ∷ es) = omega (arith, length_folded (placed s e xs) es, length_placed e xs)

  -- the push of an entry, in terms of what waits
  push_by_answer : (capacity : ℕ) (e : X) (xs : List X) → PushLaw s capacity e xs (push_answer capacity xs) (after_push s capacity e xs)
  push_by_answer capacity e xs waiting holds = by_room (ltb (length xs) capacity) refl
    where
      long : length xs ≡ length waiting
      long = ap length holds ∙ length_folded [] waiting ∙ omega arith

      by_room : (b : Bool) → ltb (length xs) capacity ≡ b
          → (next : List X) × (PushOutcome capacity e waiting (cond b (Ok tt) (Err QueueFull)) next × (cond b (placed s e xs) xs ≡ queue_of s next))
      by_room true room = (waiting ++ e ∷ [], ((omega (arith, ltb-true _ _ room, long), refl), ap (placed s e) holds ∙ sym (queue_of_push waiting e)))
      by_room false full = (waiting, ((refl, omega (arith, ltb-false _ _ full, long), refl), holds))

  pub push_law : (capacity : ℕ) (e : X) (xs : List X) (r : Result (Unit {0}) Refusal) (ys : List X)
      → r ≡ push_answer capacity xs → ys ≡ after_push s capacity e xs → PushLaw s capacity e xs r ys
  push_law capacity e xs r ys answer after =
      subst₂ (PushLaw s capacity e xs) (sym answer) (sym after) (push_by_answer capacity e xs)

  module _ (lawful : Lawful s) where
    -- what stands in front of the list is the first of those that wait, and the others make up the rest
    InFront : List X → List X → Type 0
    InFront waiting [] = waiting ≡ []
    InFront waiting (x ∷ rest) = (next : List X) × (First s waiting x next × (rest ≡ queue_of s next))

    -- what holds of the first, and of all that come no earlier, holds of all that wait
    of_all : (P : X → Type 0) (x : X) (waiting next : List X) → First s waiting x next → P x → ((y : X) → s.no_later x y ≡ true → P y) → AllByRecursion P waiting
    of_all P x waiting next f first others =
        subst (AllByRecursion P) (sym f.waits)
        (All-append P f.before (x ∷ f.behind)
        (All-weaker (λ y. s.no_later y x ≡ false) P (λ y k. others y (lawful.total y x k)) f.before f.later)
        (first, All-weaker (λ y. s.no_later x y ≡ true) P others f.behind f.no_earlier))

    -- an entry that goes in front of the first is earlier than all
    earlier : (x e : X) (waiting next : List X) → s.no_later x e ≡ false → First s waiting x next → AllByRecursion (λ y. s.no_later y e ≡ false) waiting
    earlier x e waiting next h f =
        of_all (λ y. s.no_later y e ≡ false) x waiting next f h (λ y k. false_from_ne_true _ (λ no. both_ways _ h (lawful.transitive x y e k no)))

    one_more : (waiting xs : List X) (e : X) → xs ≡ queue_of s waiting → InFront waiting xs → InFront (waiting ++ e ∷ []) (placed s e xs)
    unfolding InFront
    one_more waiting [] e holds none = ([], (record { before = []; behind = []; waits = ap (λ ws. ws ++ e ∷ []) none; later = tt; no_earlier = tt; others = refl }, refl))
    one_more waiting (x ∷ rest) e holds (next, (f, rest_is)) =
        cond_both (s.no_later x e) (x ∷ placed s e rest) (e ∷ x ∷ rest) (InFront (waiting ++ e ∷ []))
        (λ b. (
          next ++ e ∷ [],
          (
            record {
              before = f.before;
              behind = f.behind ++ e ∷ [];
              waits = ap (λ ws. ws ++ e ∷ []) f.waits ∙ append_assoc f.before (x ∷ f.behind) (e ∷ []);
              later = f.later;
              no_earlier = All-push (λ y. s.no_later x y ≡ true) f.behind e f.no_earlier b;
              others = ap (λ ws. ws ++ e ∷ []) f.others ∙ append_assoc f.before f.behind (e ∷ []);
            },
            ap (placed s e) rest_is ∙ sym (queue_of_push next e),
          ),
        ))
        (λ b. (waiting, (record { before = waiting; behind = []; waits = refl; later = earlier x e waiting next b f; no_earlier = tt; others = sym (append-nil waiting) }, holds)))

    more : (waiting xs es : List X) → xs ≡ queue_of s waiting → InFront waiting xs → InFront (waiting ++ es) (fold (λ ys e. placed s e ys) xs es)
    more waiting xs [] holds front = subst (λ ws. InFront ws xs) (sym (append-nil waiting)) front
    more waiting xs (e ∷ es) holds front =
        subst (λ ws. InFront ws (fold (λ ys x. placed s x ys) (placed s e xs) es)) (append_assoc waiting (e ∷ []) es)
        (more (waiting ++ e ∷ []) (placed s e xs) es (ap (placed s e) holds ∙ sym (queue_of_push waiting e)) (one_more waiting xs e holds front))

    in_front : (waiting : List X) → InFront waiting (queue_of s waiting)
    unfolding InFront
    in_front waiting = more [] [] waiting refl refl

    -- where the first is not due, none is
    none_due : (t : ℕ) (x : X) (waiting next : List X) → s.is_due t x ≡ false → First s waiting x next → AllByRecursion (λ y. s.is_due t y ≡ false) waiting
    none_due t x waiting next h f =
        of_all (λ y. s.is_due t y ≡ false) x waiting next f h (λ y k. false_from_ne_true _ (λ due. both_ways _ h (lawful.due_first t x y k due)))

    by_front : (t : ℕ) (waiting xs : List X) → xs ≡ queue_of s waiting → InFront waiting xs
        → (next : List X) × (TakeOutcome s t waiting (take_answer s t xs) next × (after_take s t xs ≡ queue_of s next))
    unfolding InFront
    by_front t waiting [] holds none = (waiting, ((subst (AllByRecursion (λ y. s.is_due t y ≡ false)) (sym none) tt, refl), holds))
    by_front t waiting (x ∷ rest) holds (next, (f, rest_is)) = by_due (s.is_due t x) refl
      where
        by_due : (b : Bool) → s.is_due t x ≡ b
            → (left : List X) × (TakeOutcome s t waiting (cond b (Some x) None) left × (cond b rest (x ∷ rest) ≡ queue_of s left))
        by_due true due = (next, ((due, f), rest_is))
        by_due false early = (waiting, ((none_due t x waiting next early f, refl), holds))

    take_by_answer : (t : ℕ) (xs : List X) → TakeLaw s t xs (take_answer s t xs) (after_take s t xs)
    take_by_answer t xs waiting holds = by_front t waiting xs holds (subst (InFront waiting) (sym holds) (in_front waiting))

    -- a take, in terms of what waits
    pub take_law : (t : ℕ) (xs : List X) (r : Option X) (ys : List X) → r ≡ take_answer s t xs → ys ≡ after_take s t xs → TakeLaw s t xs r ys
    take_law t xs r ys answer after =
        subst₂ (TakeLaw s t xs) (sym answer) (sym after) (take_by_answer t xs)
