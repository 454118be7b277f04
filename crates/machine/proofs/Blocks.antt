-- What an access leaves of a disk.
use Rattle.std.proofs.Common.{◌≡◌, ℕ, ◌<◌, Bool, true, false, cond, eqb, ltb, ◌⊎◌, List, length, Ok, Err, Result, refl, inl, inr, length-set}
use Rattle.std.proofs.lemmas.Bool.{and_parts, ltb-true}
use Rattle.disk.specs.declared.fault.Fault.{Fault}
use Rattle.disk.specs.Model.{Block, DiskModel, no_block, block, block_length, count, fails, failure, inadmissible, after_failure, after_success, with_block, reaches, access_answer, after_access, after_read}
use Rattle.machine.specs.Room.{World}
use Rattle.machine.specs.Outcomes.{Outcome, then}
use Rattle.machine.specs.Refusing.{SameBlocks}
use Rattle.machine.specs.Steps.{written_at, writing_block}
use Rattle.machine.proofs.Places.{at_set, set_same}

-- an access of block r of the disk d with this answer leaves the disk e: a block keeps its bytes, or it is block r, the
-- access went well, and these are its bytes
pub record Touched (d : DiskModel) (r : ℕ) (bytes : List ℕ) (answer : Result (Unit {0}) Fault) (e : DiskModel) : Type 0 where
  pub same : SameBlocks d e
  pub bytes_there : (q : ℕ) → (((block e q).bytes ≡ (block d q).bytes) × (answer ≡ Ok tt → q ≡ r → ⊥)) ⊎ ((q ≡ r) × (answer ≡ Ok tt) × ((block e q).bytes ≡ bytes))

module _ (d : DiskModel) (r : ℕ) (bytes : List ℕ) where
  -- block r is another, of the same home
  replaced : (b : Block) → r < count d → b.home ≡ (block d r).home → SameBlocks d (with_block d r b)
  replaced b l h = record { height = refl; blocks = length-set d.blocks r b; homes = set_same (λ x. x.home) d.blocks r b no_block l h }

  -- by the two tests that an access rests on
  touches_by : (x y : Fault) (t u : Bool) → (t ≡ true → r < count d)
      → Touched d r bytes (cond t (cond u (Err x) (Ok tt)) (Err y)) (cond t (with_block d r (cond u (after_failure (block d r)) (after_success (block d r) bytes))) d)
  touches_by x y false u l = record { same = record { height = refl; blocks = refl; homes = λ q. refl }; bytes_there = λ q. inl (refl, λ o. cc) }
  touches_by x y true true l = record {
    same = replaced (after_failure (block d r)) (l refl) refl;
    bytes_there = λ q. inl (set_same (λ b. b.bytes) d.blocks r (after_failure (block d r)) no_block (l refl) refl q, λ o. cc);
  }
  touches_by x y true false l = record {
    same = replaced (after_success (block d r) bytes) (l refl) refl;
    bytes_there = λ q. elim (at_set d.blocks r (after_success (block d r) bytes) no_block (l refl) q) [
      | inl a ↦ inr (a.0, refl, rw a.1)
      | inr a ↦ inl (rw a.1, λ _. a.0)
    ];
  }

-- so of every access
pub touches : (d : DiskModel) (r size : ℕ) (bytes : List ℕ) → Touched d r bytes (access_answer d r size) (after_access d r size bytes)
unfolding access_answer after_access
touches d r size bytes =
    touches_by d r bytes (failure (block d r)) (inadmissible d.height r size) (reaches d r size) (fails (block d r))
    (λ e. ltb-true r (count d) (and_parts (eqb size block_length) (ltb r (count d)) e).1)

-- a read leaves the bytes of every block
pub read_bytes : (d : DiskModel) (r size q : ℕ) → (block (after_read d r size) q).bytes ≡ (block d q).bytes
read_bytes d r size q = elim ((touches d r size (block d r).bytes).bytes_there q) [ inl e ↦ e.0 | inr e ↦ rw (e.2, e.0) ]

-- and so does an access that fails
pub failed_bytes : (d : DiskModel) (r size : ℕ) (bytes : List ℕ) (f : Fault) → access_answer d r size ≡ Err f → (q : ℕ) → (block (after_access d r size bytes) q).bytes ≡ (block d q).bytes
failed_bytes d r size bytes f e q = elim ((touches d r size bytes).bytes_there q) [ inl a ↦ a.0 | inr a ↦ cc ]

-- block r is written: the disk fails, or what follows
pub writing_elim : {A : Type 0} (P : Outcome A → Type 0) (w : World) (r : ℕ) (bytes : List ℕ) (next : World → Outcome A)
    → ((f : Fault) → access_answer w.room.disk r (length bytes) ≡ Err f → P (record { answer = Err f; world = written_at w r bytes }))
    → (access_answer w.room.disk r (length bytes) ≡ Ok tt → P (next (written_at w r bytes))) → P (writing_block w r bytes next)
writing_elim P w r bytes next failing well = go (access_answer w.room.disk r (length bytes)) refl
  where
    go : (a : Result (Unit {0}) Fault) → access_answer w.room.disk r (length bytes) ≡ a → P (then a (written_at w r bytes) (next (written_at w r bytes)))
    go (Err f) is = failing f is
    go (Ok u) is = well is
