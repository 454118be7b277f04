use Rattle.std.proofs.Common.{◌≡◌, ℕ, true, List, ◌∷◌, [], ◌++◌, decimal, ℤ, sym, ◌∙◌, arith, w32, SFits, rules}
use Rattle.std.proofs.lemmas.Int.{to_z-of_z}
use Rattle.std.proofs.lemmas.Bool.{true≢false}
use Rattle.std.proofs.lemmas.Bool.Decides.{Decides-eqb}
use Rattle.std.proofs.lemmas.Slice.Eq.{strip_suffix_is}
use Rattle.format.specs.declared.events.LogEntry.{LogEntry}
use Rattle.format.specs.Texts.{number_or_dash}
use Rattle.format.specs.Offsets.{offset_text}
use Rattle.format.specs.Logs.{event_word, has_lease, has_until, PrintsLine}
use Rattle.format.proofs.Fields.{all_but_last, same_event}
use Rattle.format.proofs.Lines.{Ranges, ranges, Free, free, line_is, behind_until}
use Rattle.format.proofs.line.candidate.Goals as goal
use Rattle.format.proofs.line.candidate.Goals.{In_ok-until, In_ok-offset}

free_of : {text : List ℕ} (p : LogEntry × ℤ) → PrintsLine p.0 p.1 text → Free p.0
free_of p w = free p.0 p.1 (ranges p.0 p.1 w.0)

ranges_of : {text : List ℕ} (p : LogEntry × ℤ) → PrintsLine p.0 p.1 text → Ranges p.0 p.1
ranges_of p w = ranges p.0 p.1 w.0

pub returns-in_err-tick : goal.returns-in_err-tick
returns-in_err-tick c = rw c.from_residual.ensures (λ p w.
    c.in_err-tick.ensures _ _ (free_of p w).tick (w.1 ∙ line_is p.0 p.1))

pub returns-in_err-word : goal.returns-in_err-word
returns-in_err-word c = rw c.from_residual-in_err-word.ensures (λ p w.
    let a = c.in_ok-tick.ensures _ _ (free_of p w).tick (w.1 ∙ line_is p.0 p.1) in
    c.in_err-word.ensures _ _ (free_of p w).word a.1)

pub returns-in_err-host : goal.returns-in_err-host
returns-in_err-host c = rw c.from_residual-in_err-host.ensures (λ p w.
    let a = c.in_ok-tick.ensures _ _ (free_of p w).tick (w.1 ∙ line_is p.0 p.1) in
    let b = c.in_ok-word.ensures _ _ (free_of p w).word a.1 in
    c.in_err-host.ensures _ _ (free_of p w).host b.1)

pub returns-in_err-resource : goal.returns-in_err-resource
returns-in_err-resource c = rw c.from_residual-in_err-resource.ensures (λ p w.
    let a = c.in_ok-tick.ensures _ _ (free_of p w).tick (w.1 ∙ line_is p.0 p.1) in
    let b = c.in_ok-word.ensures _ _ (free_of p w).word a.1 in
    let d = c.in_ok-host.ensures _ _ (free_of p w).host b.1 in
    c.in_err-resource.ensures _ _ (free_of p w).resource d.1)

pub returns-in_err-term : goal.returns-in_err-term
returns-in_err-term c = rw c.from_residual-in_err-term.ensures (λ p w.
    let a = c.in_ok-tick.ensures _ _ (free_of p w).tick (w.1 ∙ line_is p.0 p.1) in
    let b = c.in_ok-word.ensures _ _ (free_of p w).word a.1 in
    let d = c.in_ok-host.ensures _ _ (free_of p w).host b.1 in
    let f = c.in_ok-resource.ensures _ _ (free_of p w).resource d.1 in
    c.in_err-term.ensures _ _ (free_of p w).term f.1)

pub returns-in_err-until : goal.returns-in_err-until
returns-in_err-until c = rw c.from_residual-in_err-until.ensures (λ p w.
    let a = c.in_ok-tick.ensures _ _ (free_of p w).tick (w.1 ∙ line_is p.0 p.1) in
    let b = c.in_ok-word.ensures _ _ (free_of p w).word a.1 in
    let d = c.in_ok-host.ensures _ _ (free_of p w).host b.1 in
    let f = c.in_ok-resource.ensures _ _ (free_of p w).resource d.1 in
    let g = c.in_ok-term.ensures _ _ (free_of p w).term f.1 in
    c.in_err-until.ensures _ _ (free_of p w).until g.1)

-- the fields of a printed line, and what stands behind them
fields : (c : In_ok-until) (p : LogEntry × ℤ) → PrintsLine p.0 p.1 c.args.text.now
    → (c.in_ok-tick.tick.now ≡ decimal p.0.tick.0) × (c.in_ok-word.word.now ≡ event_word p.0.event) × (c.in_ok-host.host.now ≡ decimal p.0.host) × (c.in_ok-resource.resource.now ≡ number_or_dash (has_lease p.0.event) p.0.resource) × (c.in_ok-term.term.now ≡ number_or_dash (has_lease p.0.event) p.0.term) × (c.in_ok-until.until.now ≡ number_or_dash (has_until p.0.event) p.0.until.0) × (c.in_ok-until.rest.now ≡ behind_until p.0 p.1)
fields c p w =
    let a = c.in_ok-tick.ensures _ _ (free_of p w).tick (w.1 ∙ line_is p.0 p.1) in
    let b = c.in_ok-word.ensures _ _ (free_of p w).word a.1 in
    let d = c.in_ok-host.ensures _ _ (free_of p w).host b.1 in
    let f = c.in_ok-resource.ensures _ _ (free_of p w).resource d.1 in
    let g = c.in_ok-term.ensures _ _ (free_of p w).term f.1 in
    let h = c.in_ok-until.ensures _ _ (free_of p w).until g.1 in
    (a.0, b.0, d.0, f.0, g.0, h.0, h.1)

pub returns-in_err-offset : goal.returns-in_err-offset
returns-in_err-offset c = rw c.from_residual-in_err-offset.ensures (λ p w.
    rw c.in_err-offset.was at (strip_suffix_is Decides-eqb c.in_ok-until.rest.now (10 ∷ []) c.strip_suffix.result c.strip_suffix.ensures.cases) (offset_text p.1) (fields (goal.at.returns-in_err-offset c).In_ok-until p w).6)

pub returns-in_err-number_in : goal.returns-in_err-number_in
returns-in_err-number_in c = rw c.from_residual-in_err-number_in.ensures (λ p w. c.in_err-number_in.ensures true p.0.tick.0 (omega (arith, (ranges_of p w).tick)) (fields (goal.at.returns-in_err-number_in c).In_ok-until p w).0)

pub returns-in_err-event_in : goal.returns-in_err-event_in
returns-in_err-event_in c = rw c.from_residual-in_err-event_in.ensures (λ p w. c.in_err-event_in.ensures p.0.event (fields (goal.at.returns-in_err-event_in c).In_ok-until p w).1)

pub returns-in_err-small_number_in : goal.returns-in_err-small_number_in
returns-in_err-small_number_in c = rw c.from_residual-in_err-small_number_in.ensures (λ p w. c.in_err-small_number_in.ensures true p.0.host (omega (arith, (ranges_of p w).host)) (λ n. absurd (true≢false n)) (fields (goal.at.returns-in_err-small_number_in c).In_ok-until p w).2)

pub returns-in_err-small_number_in-2 : goal.returns-in_err-small_number_in-2
returns-in_err-small_number_in-2 c = rw c.from_residual-in_err-small_number_in-2.ensures (λ p w. c.in_err-small_number_in-2.ensures (has_lease p.0.event) p.0.resource (omega (arith, (ranges_of p w).resource)) (ranges_of p w).no_resource (fields (goal.at.returns-in_err-small_number_in-2 c).In_ok-until p w).3)

pub returns-in_err-number_in-2 : goal.returns-in_err-number_in-2
returns-in_err-number_in-2 c = rw c.from_residual-in_err-number_in-2.ensures (λ p w. c.in_err-number_in-2.ensures (has_lease p.0.event) p.0.term (omega (arith, (ranges_of p w).term)) (fields (goal.at.returns-in_err-number_in-2 c).In_ok-until p w).4)

pub returns-in_err-number_in-3 : goal.returns-in_err-number_in-3
returns-in_err-number_in-3 c = rw c.from_residual-in_err-number_in-3.ensures (λ p w. c.in_err-number_in-3.ensures (has_until p.0.event) p.0.until.0 (omega (arith, (ranges_of p w).until)) (fields (goal.at.returns-in_err-number_in-3 c).In_ok-until p w).5)

offset_is : (c : In_ok-offset) (text : List ℕ) → c.in_ok-until.rest.now ≡ text ++ 10 ∷ [] → c.in_ok-offset.offset.now ≡ text
offset_is c text e = c.in_ok-offset.ensures.cases.1 ∙ all_but_last c.in_ok-until.rest.now text 10 e

pub returns-in_err-candidate_offset : goal.returns-in_err-candidate_offset
returns-in_err-candidate_offset c = rw c.from_residual-in_err-candidate_offset.ensures (λ p w.
    let at = goal.at.returns-in_err-candidate_offset c in
    c.in_err-candidate_offset.ensures p.1 ((ranges_of p w).offset, offset_is at.In_ok-offset _ (fields at.In_ok-until p w).6))

pub returns : goal.returns
returns c p w =
    let at = goal.at.returns c in
    let t = fields at.In_ok-until p w in
    let r = ranges_of p w in
    let tick = c.in_ok-number_in.ensures true p.0.tick.0 (omega (arith, r.tick)) (λ n. absurd (true≢false n)) t.0 in
    let event = same_event p.0.event c.in_ok-event_in.field-0 (sym t.1 ∙ c.in_ok-event_in.ensures) in
    let host = c.in_ok-small_number_in.ensures true p.0.host (omega (arith, r.host)) (λ n. absurd (true≢false n)) t.2 in
    let resource = c.in_ok-small_number_in-2.ensures (has_lease p.0.event) p.0.resource (omega (arith, r.resource)) r.no_resource t.3 in
    let term = c.in_ok-number_in-2.ensures (has_lease p.0.event) p.0.term (omega (arith, r.term)) r.no_term t.4 in
    let until = c.in_ok-number_in-3.ensures (has_until p.0.event) p.0.until.0 (omega (arith, r.until)) r.no_until t.5 in
    let offset = c.in_ok-candidate_offset.ensures p.1 (r.offset, offset_is at.In_ok-offset _ t.6) in
    let fits : SFits w32 c.in_ok-candidate_offset.field-0 = search rules in
    let same = offset ∙ sym (to_z-of_z w32 c.in_ok-candidate_offset.field-0 fits) in
    λ i. (record { tick = record { 0 = sym tick i }; event = event i; host = sym host i; resource = sym resource i; term = sym term i; until = record { 0 = sym until i } }, same i)
