-- The worked examples hold of the definitions.
use Rattle.std.proofs.Common.{ℕ, List, ◌∷◌, ◌++◌, refl, ap, arith}
use Rattle.std.proofs.lemmas.Fmt.{decimal_digit}
use Rattle.format.specs.Blocks.{block_of}
use Rattle.format.specs.Examples.{WorkedExamples}

-- a sign, the seconds, and what stands behind them
text_with : ℕ → List ℕ → List ℕ → List ℕ
text_with sign rest seconds = sign ∷ (seconds ++ rest)

pub worked_examples : WorkedExamples
unfolding block_of text_with
worked_examples =
    record {
      founding_block = refl;
      owned_block = refl;
      quarter_second = ap (text_with 45 _) (decimal_digit 0 (omega arith));
      millisecond = ap (text_with 45 _) (decimal_digit 0 (omega arith));
      no_offset = ap (text_with 43 _) (decimal_digit 0 (omega arith));
      over_a_second = ap (text_with 45 _) (decimal_digit 1 (omega arith));
    }
