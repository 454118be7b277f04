-- What an access answers and leaves, where it comes to no block and where it comes to one.
use Rattle.std.proofs.Common.{◌≡◌, ℕ, ◌<◌, Bool, true, false, cond, not, eqb, ltb, List, replicate, Ok, Err, refl}
use Rattle.std.proofs.lemmas.Bool.{ltb-true, eqb-true, and_parts, lt-ltb, eq-eqb, and_from}
use Rattle.disk.specs.Model.{Block, DiskModel, block_length, count, block, with_block, fails, failure, after_failure, after_success, reaches, admissible, inadmissible, access_answer, after_access, area_after_read}

-- an access that comes to the block b
pub record Reached (m : DiskModel) (n size : ℕ) (bytes : List ℕ) (b : Block) : Type 0 where
  pub answer_is : access_answer m n size ≡ cond (fails b) (Err (failure b)) (Ok tt)
  pub disk_is : after_access m n size bytes ≡ with_block m n (cond (fails b) (after_failure b) (after_success b bytes))
  pub area_is : area_after_read m n size ≡ cond (fails b) (replicate size 0) b.bytes

-- an area of one block, and the number of a block that is there
pub record Admitted (m : DiskModel) (n size : ℕ) : Type 0 where
  pub whole : size ≡ block_length
  pub within : n < count m

turned : {X : Type 0} (t : Bool) (x y : X) → cond (not t) x y ≡ cond t y x
turned true x y = refl
turned false x y = refl

pub reached : (m : DiskModel) (n size : ℕ) (bytes : List ℕ) (b : Block) → Admitted m n size → block m n ≡ b → Reached m n size bytes b
unfolding access_answer after_access area_after_read
reached m n size bytes b a i =
    let e : reaches m n size ≡ true = and_from (eqb size block_length) (ltb n (count m)) (eq-eqb size block_length a.whole) (lt-ltb n (count m) a.within) in
    rw (← i)
    (record {
      answer_is = rw e;
      disk_is = rw e;
      area_is = rw e (turned (fails (block m n)) (block m n).bytes (replicate size 0));
    })

-- what `admit` tells of an access, where it is given the disk's count
pub admitted : (m : DiskModel) (n size : ℕ) {total : ℕ} → total ≡ count m → admissible total n size ≡ true → Admitted m n size
admitted m n size {total} t a =
    let parts = and_parts (eqb size block_length) (ltb n total) a in
    record { whole = eqb-true size block_length parts.0; within = rw (← t) (ltb-true n total parts.1) }

-- an access that comes to no block
module _ (m : DiskModel) (n size : ℕ) (no : reaches m n size ≡ false) where
  pub refused_answer : access_answer m n size ≡ Err (inadmissible m.height n size)
  unfolding access_answer
  refused_answer = rw no

  pub refused_disk : (bytes : List ℕ) → after_access m n size bytes ≡ m
  unfolding after_access
  refused_disk bytes = rw no

  pub refused_area : area_after_read m n size ≡ replicate size 0
  unfolding area_after_read
  refused_area = rw no
