-- Reading a record answers it exactly when its block is there to be read.
use Rattle.std.proofs.Common.{◌≡◌, ℕ, Bool, true, false, cond, not, ◌&&◌, List, replicate, Ok, Err, Result, sym, refl, ap, ◌∙◌, arith}
use Rattle.disk.specs.declared.fault.Fault.{Fault}
use Rattle.disk.specs.declared.fault.Refusal.{Refusal}
use Rattle.disk.specs.Model.{DiskModel, block, fails, failure, inadmissible, reaches, access_answer, area_after_read, height_above}
use Rattle.format.specs.declared.lease.LeaseRecord.{LeaseRecord}
use Rattle.format.specs.Blocks.{decoded}
use Rattle.format.specs.Stores.{Held, and_then, placed, placed_at, read_answer}
use Rattle.format.proofs.Decoding.{exact}

-- by the two tests that an access's answer rests on
refused_by : (f : Fault) (x y : Fault) (d z : List ℕ) (t u : Bool) → ◌≡◌ {A = Result (Unit {0}) Fault} (cond t (cond u (Err x) (Ok tt)) (Err y)) (Err f) → cond (t && not u) d z ≡ z
refused_by f x y d z true true e = refl
refused_by f x y d z true false e = absurd (let o : ◌≡◌ {A = ℕ} 0 1 = cc in omega arith)
refused_by f x y d z false u e = refl

accepted_by : (x y : Fault) (d z : List ℕ) (t u : Bool) → ◌≡◌ {A = Result (Unit {0}) Fault} (cond t (cond u (Err x) (Ok tt)) (Err y)) (Ok tt) → cond (t && not u) d z ≡ d
accepted_by x y d z true true e = absurd (let o : ◌≡◌ {A = ℕ} 0 1 = cc in omega arith)
accepted_by x y d z true false e = refl
accepted_by x y d z false u e = absurd (let o : ◌≡◌ {A = ℕ} 0 1 = cc in omega arith)

module _ (m : DiskModel) (n size : ℕ) where
  -- a refused read leaves zeros, an accepted one the block
  pub refused_area : (f : Fault) → access_answer m n size ≡ Err f → area_after_read m n size ≡ replicate size 0
  unfolding access_answer area_after_read
  refused_area f e =
      refused_by f (failure (block m n)) (inadmissible m.height n size) (block m n).bytes (replicate size 0) (reaches m n size) (fails (block m n)) e

  pub accepted_area : access_answer m n size ≡ Ok tt → area_after_read m n size ≡ (block m n).bytes
  unfolding access_answer area_after_read
  accepted_area e =
      accepted_by (failure (block m n)) (inadmissible m.height n size) (block m n).bytes (replicate size 0) (reaches m n size) (fails (block m n)) e

-- a place changes nothing of a record
placed_ok : (n height : ℕ) (r : Result LeaseRecord Refusal) (x : LeaseRecord) → placed_at n height r ≡ Ok x → r ≡ Ok x
placed_ok n height (Ok y) x e = let same : y ≡ x = cc in ap Ok same
placed_ok n height (Err f) x e = absurd (let o : ◌≡◌ {A = ℕ} 0 1 = cc in omega arith)

module _ (m : DiskModel) (n size : ℕ) (x : LeaseRecord) where
  ok_only : (a : Result (Unit {0}) Fault) → access_answer m n size ≡ a → and_then a (placed n (height_above m.height) (area_after_read m n size)) ≡ Ok x → Held m n size x
  ok_only (Ok u) e o =
      let bytes = accepted_area m n size e in
      let d = placed_ok n (height_above m.height) (decoded (area_after_read m n size)) x o in
      (e, (exact (block m n).bytes x).0 (ap decoded (sym bytes) ∙ d))
  ok_only (Err f) e o = absurd (let z : ◌≡◌ {A = ℕ} 0 1 = cc in omega arith)

  held_read : Held m n size x → read_answer m n size ≡ Ok x
  unfolding read_answer
  held_read h =
      ap (λ a. and_then a (placed n (height_above m.height) (area_after_read m n size))) h.0
      ∙ ap (placed n (height_above m.height)) (accepted_area m n size h.0)
      ∙ ap (placed_at n (height_above m.height)) ((exact (block m n).bytes x).1 h.1)

  pub reads_exactly : (r : Result LeaseRecord Fault) → r ≡ read_answer m n size → (r ≡ Ok x → Held m n size x) × (Held m n size x → r ≡ Ok x)
  unfolding read_answer
  reads_exactly r e = (λ o. ok_only (access_answer m n size) refl (sym e ∙ o), λ h. e ∙ held_read h)
