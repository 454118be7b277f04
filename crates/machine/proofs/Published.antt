-- The published examples hold of the definitions, by computation.
use Rattle.std.proofs.Common.{refl}
use Rattle.disk.specs.Model.{access_answer, after_access, area_after_read}
use Rattle.format.specs.Blocks.{block_of, decoded}
use Rattle.format.specs.Stores.{read_answer}
use Rattle.format.proofs.Worked.{worked_examples}
use Rattle.machine.specs.Claiming.{try_call, check_call}
use Rattle.machine.specs.Writes.{land_call}
use Rattle.machine.specs.Setup.{open_call}
use Rattle.machine.specs.Examples.{PublishedExamples}

pub published_examples : PublishedExamples
unfolding open_call try_call check_call land_call read_answer access_answer after_access area_after_read block_of decoded
published_examples =
    record {
      formats = worked_examples;
      early_at_20 = refl;
      granted_at_21 = refl;
      granted_at_39 = refl;
      late_at_40 = refl;
      lands_at_10 = refl;
      lost_at_11 = refl;
      early_at_44 = refl;
      claims_at_45 = refl;
    }
