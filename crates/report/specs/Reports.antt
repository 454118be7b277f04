-- How a log entry is reported.
use Rattle.std.specs.Prelude.{ℕ, List, ◌++◌, Ok, Err, Result, codes, decimal}
use Rattle.disk.specs.declared.fault.Refusal.{Refusal}
use Rattle.disk.specs.Refusals.{refusal_number}
use Rattle.format.specs.Texts.{print_answer}
use Rattle.format.specs.Logs.{printable, line_text}
use Rattle.report.specs.declared.LogReport.{LogReport}

-- by the answer of printing its line: the line, which reads back, or the number of the refusal
abbrev pub told : LogReport → Result ℕ Refusal → List ℕ
told r (Ok _) = line_text r.entry r.offset ++ codes "  reads back: true"
told r (Err cause) = codes "log line refused " ++ decimal (refusal_number cause)

-- no line is longer than 64 bytes
abbrev pub report_text : LogReport → List ℕ
report_text r = told r (print_answer (printable r.entry r.offset) (line_text r.entry r.offset) 64)
