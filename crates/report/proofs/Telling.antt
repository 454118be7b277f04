-- What is told of an entry whose line was printed.
use Rattle.std.proofs.Common.{◌≡◌, ℕ, Bool, true, false, leb, Decides, List, ◌++◌, length, take, Ok, Err, codes, refl, ◌∙◌, arith, cond, sym, ℤ}
use Rattle.std.specs.Bool.{if◌then◌else◌}
use Rattle.std.proofs.lemmas.List.{take-append-le, take_all}
use Rattle.disk.specs.declared.fault.Refusal.TheVariants.{BufferShort}
use Rattle.format.specs.Texts.{print_answer}
use Rattle.format.specs.Logs.{printable, line_text, PrintsLine}
use Rattle.report.specs.declared.LogReport.{LogReport}
use Rattle.report.specs.Reports.{report_text}

-- where the equations at hand join two different constructors
clash : {A : Type 0} → ◌≡◌ {A = ℕ} 0 1 → A
clash e = absurd (omega arith)

-- a text that was printed is in range, and stands in the front of the buffer
printed : (good : Bool) (line rest new : List ℕ) (n : ℕ) → Ok n ≡ print_answer good line 64 → new ≡ line ++ rest → (good ≡ true) × (take n new ≡ line)
printed true line rest new n answer after = (refl, fits (leb (length line) 64) answer)
  where
    fits : (b : Bool) → Ok n ≡ cond b (Ok (length line)) (Err BufferShort) → take n new ≡ line
    fits true e = let same : n ≡ length line = cc in rw (after, same) (take-append-le (length line) line rest (omega arith) ∙ take_all (length line) line (omega arith))
    fits false e = clash (cc)
printed false line rest new n answer after = clash (cc)

-- so it reads back, and this is what is told
pub reads : (r : LogReport) (z : ℤ) (text rest new : List ℕ) (n : ℕ) (back : Bool)
    → z ≡ r.offset
    → Ok n ≡ print_answer (printable r.entry z) (line_text r.entry z) 64
    → new ≡ line_text r.entry z ++ rest
    → text ≡ take n new
    → Decides back (PrintsLine r.entry r.offset (take n new))
    → text ++ (codes "  reads back: " ++ (if back then codes "true" else codes "false")) ≡ report_text r
reads r z text rest new n back plain answer after shown decides =
    let here : Ok n ≡ print_answer (printable r.entry r.offset) (line_text r.entry r.offset) 64 = rw (sym plain) answer in
    let p = printed (printable r.entry r.offset) (line_text r.entry r.offset) rest new n here (rw (sym plain) after) in
    rw (shown, decides.1 p, p.1, sym here)
