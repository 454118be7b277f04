-- Worked examples, as they are published.
use Rattle.std.specs.Prelude.{◌≡◌, [], ◌∷◌, ◌++◌, replicate, pos, negsuc, codes}
use Rattle.format.specs.declared.lease.Kind.TheVariants.{Owned}
use Rattle.format.specs.declared.lease.LeaseRecord.{LeaseRecord}
use Rattle.format.specs.Blocks.{founding, block_of}
use Rattle.format.specs.Offsets.{offset_text}

-- resource 2, owned by host 3, with generation, stamp and term 1
abbrev pub first_owned : LeaseRecord
first_owned = record { kind = Owned; resource = 2; mark = record { owner = 3; generation = 1; stamp = 1 }; term = 1 }

pub record WorkedExamples : Type 0 where
  -- two blocks
  pub founding_block : block_of (founding 0)
      ≡ (0x00 ∷ 0x14 ∷ 0x01 ∷ 0x00 ∷ 0x00 ∷ 0x00 ∷ 0x00 ∷ 0x00 ∷ 0x00 ∷ 0x00 ∷ 0x00 ∷ 0x00 ∷ 0x00 ∷ 0x00 ∷ 0x00 ∷ 0x00 ∷ 0x07 ∷ 0xA0 ∷ 0x01 ∷ 0x14 ∷ []) ++ replicate 492 0
  pub owned_block : block_of first_owned
      ≡ (0x00 ∷ 0x14 ∷ 0x01 ∷ 0x01 ∷ 0x02 ∷ 0x03 ∷ 0x00 ∷ 0x01 ∷ 0x00 ∷ 0x00 ∷ 0x00 ∷ 0x01 ∷ 0x00 ∷ 0x00 ∷ 0x00 ∷ 0x01 ∷ 0x13 ∷ 0xC2 ∷ 0x03 ∷ 0x1B ∷ []) ++ replicate 492 0
  -- offsets of -250, -1, 0 and -1,250 milliseconds
  pub quarter_second : offset_text (negsuc 249) ≡ codes "-0.250"
  pub millisecond : offset_text (negsuc 0) ≡ codes "-0.001"
  pub no_offset : offset_text (pos 0) ≡ codes "+0.000"
  pub over_a_second : offset_text (negsuc 1249) ≡ codes "-1.250"
