-- How the takeover words what a call answers.
use Rattle.std.specs.Prelude.{ℕ, List, ◌++◌, codes, decimal}
use Rattle.std.specs.Fmt.{signed_decimal}
use Rattle.machine.specs.declared.types.Answer.{Answer}
use Rattle.machine.specs.declared.types.Answer.TheVariants.{Done, Issued, Watching, Granted, Stolen}

abbrev pub answer_text : Answer → List ℕ
answer_text Done = codes "done"
answer_text (Issued mark) = codes "a write is issued, stamp " ++ decimal mark.stamp
answer_text Watching = codes "it watches"
answer_text (Granted term until) = codes "granted, term " ++ (decimal term ++ (codes ", until its clock reads " ++ signed_decimal until.0))
answer_text Stolen = codes "stolen"
