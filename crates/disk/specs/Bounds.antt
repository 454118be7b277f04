-- The count and the blocks of each kind of disk, and that they keep the bounds.
use Rattle.std.specs.Prelude.{◌≡◌, ℕ, ◌+◌, ◌-◌, ◌<◌, min, List, drop}
use Rattle.std.proofs.Common.{arith, ◌∙◌, length-take, length-drop}
use Rattle.std.proofs.Math.Nat.{div-le_self}
use Rattle.std.proofs.lemmas.List.FromFn.{length-map-range_with_len, get_or-map-range_with_len}
use Rattle.std.proofs.lemmas.List.{get_or-take, get_or-drop, length-map, get_or-map}
use Rattle.disk.specs.Model.{DiskModel, Bounds, count, block, no_block}
use Rattle.disk.specs.declared.tally.Tally.{Tally}
use Rattle.disk.specs.Tallies.{tally}
use Rattle.disk.specs.Images.{plain, plain_block, whole_blocks, tired, tired_block, tired_count}
use Rattle.disk.specs.Layers.{spanned, retried_block, retried}

pub count_plain : (bytes : List ℕ) → count (plain bytes) ≡ whole_blocks bytes
count_plain bytes = length-map-range_with_len (plain_block bytes) 0 (whole_blocks bytes)

pub block_plain : (bytes : List ℕ) (n : ℕ) → n < count (plain bytes) → block (plain bytes) n ≡ plain_block bytes n
block_plain bytes n h = get_or-map-range_with_len (plain_block bytes) 0 (whole_blocks bytes) n n no_block (omega (arith, count_plain bytes)) (omega arith)

pub plain_bounds : (bytes : List ℕ) → Bounds (plain bytes)
plain_bounds bytes =
    record {
      low = omega arith;
      few = omega (arith, count_plain bytes);
      whole = λ n h. rw (block_plain bytes n h) (simp (length-take, length-drop) (omega (arith, count_plain bytes)));
      good_fits = λ n h. rw (block_plain bytes n h) (omega arith);
      due_fits = λ n h. rw (block_plain bytes n h) (omega arith);
    }

pub count_tired : (bytes : List ℕ) (tallies : List Tally) → count (tired bytes tallies) ≡ tired_count bytes tallies
count_tired bytes tallies = length-map-range_with_len (tired_block bytes tallies) 0 (tired_count bytes tallies)

pub block_tired : (bytes : List ℕ) (tallies : List Tally) (n : ℕ) → n < count (tired bytes tallies) → block (tired bytes tallies) n ≡ tired_block bytes tallies n
block_tired bytes tallies n h =
    get_or-map-range_with_len (tired_block bytes tallies) 0 (tired_count bytes tallies) n n no_block (omega (arith, count_tired bytes tallies)) (omega arith)

pub tired_bounds : (bytes : List ℕ) (tallies : List Tally) → Bounds (tired bytes tallies)
tired_bounds bytes tallies =
    record {
      low = omega arith;
      few = omega (arith, count_tired bytes tallies);
      whole = λ n h. rw (block_tired bytes tallies n h) (simp (length-take, length-drop) (omega (arith, count_tired bytes tallies)));
      good_fits = λ n h. rw (block_tired bytes tallies n h) (tally tallies n).good_fits;
      due_fits = λ n h. rw (block_tired bytes tallies n h) (tally tallies n).due_fits;
    }

pub count_spanned : (b c : ℕ) (m : DiskModel) → count (spanned b c m) ≡ min (count m - b) c
count_spanned b c m = simp (length-take, length-drop) (omega arith)

pub inside : (b c : ℕ) (m : DiskModel) (n : ℕ) → n < count (spanned b c m) → (n < c) × (b + n < count m)
inside b c m n h = (omega (arith, count_spanned b c m), omega (arith, count_spanned b c m))

pub block_spanned : (b c : ℕ) (m : DiskModel) (n : ℕ) → n < count (spanned b c m) → block (spanned b c m) n ≡ block m (b + n)
block_spanned b c m n h = get_or-take c (drop b m.blocks) n no_block (inside b c m n h).0 ∙ get_or-drop b m.blocks n no_block

pub spanned_bounds : (b c : ℕ) (m : DiskModel) → Bounds m → Bounds (spanned b c m)
spanned_bounds b c m s =
    record {
      low = omega arith;
      few = omega (arith, count_spanned b c m, s.few);
      whole = λ n h. rw (block_spanned b c m n h) (s.whole (b + n) (inside b c m n h).1);
      good_fits = λ n h. rw (block_spanned b c m n h) (s.good_fits (b + n) (inside b c m n h).1);
      due_fits = λ n h. rw (block_spanned b c m n h) (s.due_fits (b + n) (inside b c m n h).1);
    }

pub count_retried : (tries : ℕ) (m : DiskModel) → count (retried tries m) ≡ count m
count_retried tries m = length-map m.blocks (retried_block tries)

pub block_retried : (tries : ℕ) (m : DiskModel) (n : ℕ) → n < count m → block (retried tries m) n ≡ retried_block tries (block m n)
block_retried tries m n h = get_or-map (retried_block tries) m.blocks n no_block no_block h

module _ (tries : ℕ) (m : DiskModel) (s : Bounds m) where
  below : (n : ℕ) → n < count (retried tries m) → n < count m
  below n h = omega (arith, count_retried tries m)

  pub retried_bounds : Bounds (retried tries m)
  unfolding below
  retried_bounds =
      record {
        low = omega arith;
        few = omega (arith, count_retried tries m, s.few);
        whole = λ n h. rw (block_retried tries m n (below n h)) (s.whole n (below n h));
        good_fits = λ n h. rw (block_retried tries m n (below n h)) (s.good_fits n (below n h));
        due_fits = λ n h. rw (block_retried tries m n (below n h)) (omega (arith, s.due_fits n (below n h), div-le_self (block m n).due tries));
      }
