-- That `==` tells whether what was read is an entry and an offset.
use Rattle.std.proofs.Common.{◌≡◌, ℕ, Bool, ◌&&◌, Decides, ℤ, eqb, int_eq, rules, sym, subst, Ok, List, ◌∙◌}
use Rattle.std.proofs.lemmas.Bool.Decides.{Decides-and, Decides-eqb, Decides-int_eq}
use denote.Enum.Bare.{same_true, true_same, sameb}
use Rattle.format.specs.contracts.events.Event.{the_type}
use Rattle.format.specs.declared.events.LogEntry.{LogEntry}
use Rattle.format.specs.Logs.{PrintsLine, ReadsLine}

-- what `==` computes of two entries
abbrev tested : LogEntry → LogEntry → Bool
tested e f =
    eqb e.tick.0 f.tick.0 && (sameb the_type e.event f.event && (eqb e.host f.host && (eqb e.resource f.resource && (eqb e.term f.term && eqb e.until.0 f.until.0))))

-- it says whether they are equal
same_entry : (e f : LogEntry) → Decides (tested e f) (e ≡ f)
same_entry e f =
    let fields =
    Decides-and _ _ (Decides-eqb e.tick.0 f.tick.0)
    (Decides-and _ _ (same_true the_type (search rules) e.event f.event, true_same the_type e.event f.event)
    (Decides-and _ _ (Decides-eqb e.host f.host)
    (Decides-and _ _ (Decides-eqb e.resource f.resource)
    (Decides-and _ _ (Decides-eqb e.term f.term) (Decides-eqb e.until.0 f.until.0))))) in (
      λ all.
          let s = fields.0 all in
          λ i. record { tick = record { 0 = s.0 i }; event = s.1.0 i; host = s.1.1.0 i; resource = s.1.1.1.0 i; term = s.1.1.1.1.0 i; until = record { 0 = s.1.1.1.1.1 i } },
      λ same. fields.1 (λ i. (same i).tick.0, (λ i. (same i).event, (λ i. (same i).host, (λ i. (same i).resource, (λ i. (same i).term, λ i. (same i).until.0))))),
    )

-- what was read is tested against an entry and an offset
pub read_back : (line : List ℕ) (e f : LogEntry) (y x z : ℤ) → x ≡ z → ReadsLine line (Ok (f, y)) → Decides (tested f e && int_eq y x) (PrintsLine e z line)
read_back line e f y x z plain reads =
    let both = Decides-and _ _ (same_entry f e) (Decides-int_eq y x) in (
      λ all.
          let s = both.0 all in
          subst (λ w. PrintsLine w z line) s.0 (subst (λ w. PrintsLine f w line) (s.1 ∙ plain) reads.0),
      λ prints.
          let s = reads.1 e z prints in
          both.1 (sym s.0, sym s.1 ∙ sym plain),
    )
