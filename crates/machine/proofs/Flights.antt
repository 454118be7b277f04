-- The writes in flight: with one more, without one, without the old ones.
use Rattle.std.proofs.Common.{◌≡◌, ℕ, ◌+◌, ◌≤◌, Bool, true, false, ltb, ◌⊎◌, List, [], ◌∷◌, ◌++◌, Some, sym, refl, ap, ◌∙◌, subst, inl, inr, arith}
use Rattle.std.proofs.lemmas.Bool.{ltb-true, cond_both, ltb-false}
use Rattle.format.specs.declared.lease.Mark.{Mark}
use Rattle.machine.specs.declared.types.Flight.{Flight}
use Rattle.machine.specs.Seats.{same_mark}
use Rattle.machine.specs.Writes.{find, removed}
use Rattle.machine.specs.Setup.{younger}
use Rattle.machine.specs.View.{In, here, there}
use Rattle.machine.proofs.Same.{mark_same, mark_self}

-- no two writes in flight have one mark
abbrev pub Apart : List Flight → Type 0
Apart [] = Unit {0}
Apart (f ∷ fs) = ((g : Flight) → In g fs → g.body.mark ≡ f.body.mark → ⊥) × Apart fs

-- what is in flight after one more was issued
pub in_push : (g f : Flight) (fs : List Flight) → In g (fs ++ (f ∷ [])) → In g fs ⊎ (g ≡ f)
in_push g f [] here = inr refl
in_push g f [] (there i) = inl i
in_push g f (e ∷ fs) here = inl here
in_push g f (e ∷ fs) (there i) = elim (in_push g f fs i) [ inl j ↦ inl (there j) | inr j ↦ inr j ]

-- one more write, of another mark
pub apart_push : (f : Flight) (fs : List Flight) → Apart fs → ((g : Flight) → In g fs → g.body.mark ≡ f.body.mark → ⊥) → Apart (fs ++ (f ∷ []))
apart_push f [] a n = (λ g i. elim i [ ], tt)
apart_push f (e ∷ fs) a n = (λ g i same. elim (in_push g f fs i) [ inl j ↦ a.0 g j same | inr j ↦ n e here (sym (rw j at same)) ], apart_push f fs a.1 (λ g i. n g (there i)))

-- a list that lost writes behind its first
in_cons : (g f : Flight) (ys fs : List Flight) → (In g ys → In g fs) → In g (f ∷ ys) → In g (f ∷ fs)
in_cons g f ys fs n here = here
in_cons g f ys fs n (there i) = there (n i)

-- the write that a mark names, and what is left without it
module _ (m : Mark) where
  pub find_in : (f : Flight) (fs : List Flight) → find m fs ≡ Some f → In f fs × (f.body.mark ≡ m)
  find_in f [] e = cc
  find_in f (g ∷ fs) e = go (find_in f fs) (same_mark g.body.mark m) refl
    where
      go : (find m fs ≡ Some f → In f fs × (f.body.mark ≡ m)) → (b : Bool) → same_mark g.body.mark m ≡ b → In f (g ∷ fs) × (f.body.mark ≡ m)
      go n true i = let q : g ≡ f = cc in (subst (λ (z : Flight). In z (g ∷ fs)) q here, ap (λ (z : Flight). z.body.mark) (sym q) ∙ mark_same g.body.mark m i)
      go n false i = let q : find m fs ≡ Some f = cc in (there (n q).0, (n q).1)

  -- what is left was there
  pub removed_was : (g : Flight) (fs : List Flight) → In g (removed m fs) → In g fs
  removed_was g [] = λ i. i
  removed_was g (f ∷ fs) =
      let n = removed_was g fs in
      cond_both (same_mark f.body.mark m) fs (f ∷ removed m fs) (λ (ys : List Flight). In g ys → In g (f ∷ fs)) (λ _ i. there i) (λ _ i. in_cons g f (removed m fs) fs n i)

  -- and has another mark, where marks are apart
  pub removed_in : (g : Flight) (fs : List Flight) → Apart fs → In g (removed m fs) → In g fs × (g.body.mark ≡ m → ⊥)
  removed_in g [] a = λ i. elim i [ ]
  removed_in g (f ∷ fs) a =
      let n = removed_in g fs a.1 in
      cond_both (same_mark f.body.mark m) fs (f ∷ removed m fs) (λ (ys : List Flight). In g ys → In g (f ∷ fs) × (g.body.mark ≡ m → ⊥))
      (λ e i. (there i, λ same. a.0 g i (same ∙ sym (mark_same f.body.mark m e))))
      (λ e i. other f (removed m fs) e n i)
    where
      other : (f : Flight) (ys : List Flight) → same_mark f.body.mark m ≡ false → (In g ys → In g fs × (g.body.mark ≡ m → ⊥)) → In g (f ∷ ys) → In g (f ∷ fs) × (g.body.mark ≡ m → ⊥)
      other f ys e n here = (here, λ same. let t = mark_self f.body.mark m same in cc)
      other f ys e n (there i) = (there (n i).0, (n i).1)

  -- what is left has marks apart
  pub removed_apart : (fs : List Flight) → Apart fs → Apart (removed m fs)
  removed_apart [] a = a
  removed_apart (f ∷ fs) a =
      let n = removed_apart fs a.1 in
      cond_both (same_mark f.body.mark m) fs (f ∷ removed m fs) Apart (λ _. a.1) (λ _. (λ g i. a.0 g (removed_was g fs i), n))

  -- a write of another mark stays
  pub removed_stays : (g : Flight) (fs : List Flight) → In g fs → (g.body.mark ≡ m → ⊥) → In g (removed m fs)
  removed_stays g [] i n = elim i [ ]
  removed_stays g (f ∷ fs) here n = cond_both (same_mark f.body.mark m) fs (f ∷ removed m fs) (In f) (λ e. absurd (n (mark_same f.body.mark m e))) (λ _. here)
  removed_stays g (f ∷ fs) (there i) n = cond_both (same_mark f.body.mark m) fs (f ∷ removed m fs) (In g) (λ _. i) (λ _. there (removed_stays g fs i n))

-- the writes that have not run out of time
module _ (d t : ℕ) where
  -- a young write stays
  pub younger_stays : (g : Flight) (fs : List Flight) → In g fs → t ≤ g.issued.0 + d → In g (younger d t fs)
  younger_stays g [] i late = elim i [ ]
  younger_stays g (f ∷ fs) here late = cond_both (ltb (f.issued.0 + d) t) (younger d t fs) (f ∷ younger d t fs) (In f) (λ e. absurd (omega (arith, ltb-true (f.issued.0 + d) t e))) (λ _. here)
  younger_stays g (f ∷ fs) (there i) late = let n = younger_stays g fs i late in cond_both (ltb (f.issued.0 + d) t) (younger d t fs) (f ∷ younger d t fs) (In g) (λ _. n) (λ _. there n)

  -- what is left was there, and is young
  pub younger_in : (g : Flight) (fs : List Flight) → In g (younger d t fs) → In g fs × (t ≤ g.issued.0 + d)
  younger_in g [] = λ i. elim i [ ]
  younger_in g (f ∷ fs) =
      let n = younger_in g fs in
      cond_both (ltb (f.issued.0 + d) t) (younger d t fs) (f ∷ younger d t fs) (λ (ys : List Flight). In g ys → In g (f ∷ fs) × (t ≤ g.issued.0 + d))
      (λ e i. (there (n i).0, (n i).1))
      (λ e i. first f (younger d t fs) e n i)
    where
      first : (f : Flight) (ys : List Flight) → ltb (f.issued.0 + d) t ≡ false → (In g ys → In g fs × (t ≤ g.issued.0 + d)) → In g (f ∷ ys) → In g (f ∷ fs) × (t ≤ g.issued.0 + d)
      first f ys e n here = (here, ltb-false (f.issued.0 + d) t e)
      first f ys e n (there i) = (there (n i).0, (n i).1)

  -- and what is left has marks apart
  pub younger_apart : (fs : List Flight) → Apart fs → Apart (younger d t fs)
  younger_apart [] a = a
  younger_apart (f ∷ fs) a =
      let n = younger_apart fs a.1 in
      cond_both (ltb (f.issued.0 + d) t) (younger d t fs) (f ∷ younger d t fs) Apart (λ _. n) (λ _. (λ g i. a.0 g (younger_in g fs i).0, n))
