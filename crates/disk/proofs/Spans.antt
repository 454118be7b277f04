-- An access of a span is an access of the disk below.
use Rattle.std.proofs.Common.{◌≡◌, ℕ, ◌+◌, ◌<◌, List, ◌++◌, take, drop, sym, refl, ap, ◌∙◌, arith, drop-set-lt}
use lib.Seq.{take-set-lt, take-set-le, drop-set-add}
use Rattle.disk.specs.Model.{Block, DiskModel, Outside, count, block, with_block, access_answer, after_access, area_after_read}
use Rattle.disk.specs.Layers.{spanned, spanned_outside}
use Rattle.disk.specs.Bounds.{inside, block_spanned}
use Rattle.disk.proofs.Accesses.{Admitted, reached}

pub record Below (b c : ℕ) (m : DiskModel) (n size : ℕ) (bytes : List ℕ) (o : Outside) : Type 0 where
  pub answer_is : access_answer (spanned b c m) n size ≡ access_answer m (b + n) size
  pub disk_is : after_access (spanned b c m) n size bytes ≡ spanned b c (after_access m (b + n) size bytes)
  pub area_is : area_after_read (spanned b c m) n size ≡ area_after_read m (b + n) size
  pub outside_is : spanned_outside b c (after_access m (b + n) size bytes) o ≡ spanned_outside b c m o
  pub bytes_is : (block (spanned b c m) n).bytes ≡ (block m (b + n)).bytes

module _ (b c : ℕ) (m : DiskModel) (n : ℕ) (h : n < count (spanned b c m)) where
  with_spanned : (x : Block) → with_block (spanned b c m) n x ≡ spanned b c (with_block m (b + n) x)
  with_spanned x =
      ap (λ l. record { height = (spanned b c m).height; blocks = l })
      (sym (ap (take c) (drop-set-add b m.blocks n x) ∙ take-set-lt c (drop b m.blocks) n x (inside b c m n h).0))

  with_outside : (x : Block) (o : Outside) → spanned_outside b c (with_block m (b + n) x) o ≡ spanned_outside b c m o
  with_outside x o =
      let lt = (inside b c m n h).0 in
      ap (λ l. record { bytes = o.bytes; tallies = o.tallies; blocks = l })
      (ap (λ l. l ++ (drop (b + c) (with_block m (b + n) x).blocks ++ o.blocks)) (take-set-le b m.blocks (b + n) x (omega arith))
      ∙ ap (λ l. take b m.blocks ++ (l ++ o.blocks)) (drop-set-lt (b + c) m.blocks (b + n) x (omega arith)))

pub below : (b c : ℕ) (m : DiskModel) (n size : ℕ) (bytes : List ℕ) (o : Outside) → Admitted (spanned b c m) n size → Below b c m n size bytes o
below b c m n size bytes o a =
    let h = a.within in
    let top = reached (spanned b c m) n size bytes (block m (b + n)) a (block_spanned b c m n h) in
    let low = reached m (b + n) size bytes (block m (b + n)) (record { whole = a.whole; within = (inside b c m n h).1 }) refl in
    record {
      answer_is = top.answer_is ∙ sym low.answer_is;
      disk_is = top.disk_is ∙ with_spanned b c m n h _ ∙ ap (spanned b c) (sym low.disk_is);
      area_is = top.area_is ∙ sym low.area_is;
      outside_is = ap (λ x. spanned_outside b c x o) low.disk_is ∙ with_outside b c m n h _ o;
      bytes_is = ap (λ x. x.bytes) (block_spanned b c m n h);
    }
