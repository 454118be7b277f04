-- What the check's own search needs to know of disks: counts, what a refused access leaves, histories.
use Rattle.std.proofs.lemmas.Bool.Decides.{nat_tests}
use Rattle.disk.specs.Bounds.{count_plain, count_tired, count_spanned, count_retried}
use Rattle.disk.proofs.Accesses.{refused_answer, refused_disk, refused_area}
use Rattle.disk.proofs.ImageBlocks.{length_block}
use Rattle.disk.proofs.Histories.{history}

pub ruleset disks = (nat_tests, length_block, count_plain, count_tired, count_spanned, count_retried, refused_answer, refused_disk, refused_area, history)
