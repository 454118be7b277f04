-- The line of an entry: its length, and that it tells the entry and the offset.
use Rattle.std.proofs.Common.{◌≡◌, ℕ, decimal, ◌≤◌, ◌<◌, ◌^◌, Bool, true, false, leb, List, [], ◌∷◌, ◌++◌, length, ℤ, sym, refl, ap, ◌∙◌, arith, w32, SFits, Option, Some, None, is_some, unwrap_or}
use Rattle.std.proofs.lemmas.List.{length-append, append_assoc}
use Rattle.std.proofs.lemmas.Fmt.{length-decimal-le, decimal_injective}
use Rattle.std.proofs.lemmas.Bool.{and_parts, leb-true}
use Rattle.std.proofs.lemmas.Bool.Decides.{nat_tests}
use Rattle.std.specs.Bool.{then_some}
use Rattle.std.specs.Option.{ok_or}
use Rattle.disk.specs.declared.fault.Refusal.TheVariants.{NotALine}
use Rattle.format.proofs.Candidates.{Found}
use Rattle.format.specs.declared.events.LogEntry.{LogEntry}
use Rattle.format.specs.Texts.{spaced, number_or_dash, Spaceless}
use Rattle.format.specs.Offsets.{near, offset_text}
use Rattle.format.specs.Logs.{event_word, has_lease, has_until, fits_field, printable, line_text, LinesDiffer, PrintsLine, ReadsLine}
use Rattle.format.proofs.Signs.{length_offset, near_fits, same_offset}
use Rattle.format.proofs.Fields.{spaceless_decimal, spaceless_word, spaceless_number, same_parts, same_event, same_number, all_but_last, length_number, length_word}

-- what a printable entry keeps
pub record Ranges (e : LogEntry) (z : ℤ) : Type 0 where
  pub tick : e.tick.0 ≤ 999999
  pub host : e.host ≤ 15
  pub resource : e.resource ≤ 7
  pub no_resource : has_lease e.event ≡ false → e.resource ≡ 0
  pub term : e.term ≤ 999999
  pub no_term : has_lease e.event ≡ false → e.term ≡ 0
  pub until : e.until.0 ≤ 1999999
  pub no_until : has_until e.event ≡ false → e.until.0 ≡ 0
  pub offset : near z ≡ true

-- a field that fits
fits_most : (applies : Bool) (low high n : ℕ) → fits_field applies low high n ≡ true → n ≤ high
fits_most true low high n e = grind (arith, nat_tests)
fits_most false low high n e = grind (arith, nat_tests)

fits_none : (applies : Bool) (low high n : ℕ) → fits_field applies low high n ≡ true → applies ≡ false → n ≡ 0
fits_none true low high n e f = absurd (let z : ◌≡◌ {A = ℕ} 0 1 = cc in omega arith)
fits_none false low high n e f = grind (arith, nat_tests)

pub ranges : (e : LogEntry) (z : ℤ) → printable e z ≡ true → Ranges e z
ranges e z p =
    let f = and_parts _ (near z) p in
    let d = and_parts _ (fits_field (has_until e.event) 1 1999999 e.until.0) f.0 in
    let c = and_parts _ (fits_field (has_lease e.event) 1 999999 e.term) d.0 in
    let b = and_parts _ (fits_field (has_lease e.event) 0 7 e.resource) c.0 in
    let a = and_parts (leb e.tick.0 999999) (leb e.host 15) b.0 in
    record {
      tick = leb-true e.tick.0 999999 a.0;
      host = leb-true e.host 15 a.1;
      resource = fits_most (has_lease e.event) 0 7 e.resource b.1;
      no_resource = fits_none (has_lease e.event) 0 7 e.resource b.1;
      term = fits_most (has_lease e.event) 1 999999 e.term c.1;
      no_term = fits_none (has_lease e.event) 1 999999 e.term c.1;
      until = fits_most (has_until e.event) 1 1999999 e.until.0 d.1;
      no_until = fits_none (has_until e.event) 1 1999999 e.until.0 d.1;
      offset = f.1;
    }

-- the numbers of an entry and an offset fit their types
pub record Typed (e : LogEntry) (z : ℤ) : Type 0 where
  pub tick : e.tick.0 < 2 ^ 32
  pub host : e.host < 2 ^ 8
  pub resource : e.resource < 2 ^ 8
  pub term : e.term < 2 ^ 32
  pub until : e.until.0 < 2 ^ 32
  pub offset : SFits w32 z

-- what is in range fits
pub typed : (e : LogEntry) (z : ℤ) → Ranges e z → Typed e z
typed e z r =
    record {
      tick = omega (arith, r.tick);
      host = omega (arith, r.host);
      resource = omega (arith, r.resource);
      term = omega (arith, r.term);
      until = omega (arith, r.until);
      offset = near_fits z r.offset;
    }

pub length_line : (e : LogEntry) (z : ℤ) → Typed e z → length (line_text e z) ≤ 64
unfolding line_text
length_line e z t =
    let tick = length-decimal-le 10 e.tick.0 (omega arith) (omega (arith, t.tick)) (omega (arith, t.tick)) in
    let word = length_word e.event in
    let host = length-decimal-le 3 e.host (omega arith) (omega (arith, t.host)) (omega (arith, t.host)) in
    let resource = length_number (has_lease e.event) 3 e.resource (omega arith) (omega (arith, t.resource)) (omega (arith, t.resource)) in
    let term = length_number (has_lease e.event) 10 e.term (omega arith) (omega (arith, t.term)) (omega (arith, t.term)) in
    let until = length_number (has_until e.event) 10 e.until.0 (omega arith) (omega (arith, t.until)) (omega (arith, t.until)) in
    let offset = length_offset z t.offset in
    simp length-append (omega (arith, simp length-append at offset))

-- a field that is shown as a number where it applies
pub shown : (applies : Bool) (n : ℕ) (field : Option ℕ) → field ≡ then_some applies n → number_or_dash (is_some field) (unwrap_or field 0) ≡ number_or_dash applies n
shown true n field e = ap (λ f. number_or_dash (is_some f) (unwrap_or f 0)) e
shown false n field e = ap (λ f. number_or_dash (is_some f) (unwrap_or f 0)) e

-- what stands in a line behind each of its fields
module _ (e : LogEntry) (z : ℤ) where
  abbrev pub behind_until : List ℕ
  behind_until = offset_text z ++ 10 ∷ []

  abbrev pub behind_term : List ℕ
  behind_term = spaced (number_or_dash (has_until e.event) e.until.0) behind_until

  abbrev pub behind_resource : List ℕ
  behind_resource = spaced (number_or_dash (has_lease e.event) e.term) behind_term

  abbrev pub behind_host : List ℕ
  behind_host = spaced (number_or_dash (has_lease e.event) e.resource) behind_resource

  abbrev pub behind_word : List ℕ
  behind_word = spaced (decimal e.host) behind_host

  abbrev pub behind_tick : List ℕ
  behind_tick = spaced (event_word e.event) behind_word

  pub line_is : line_text e z ≡ spaced (decimal e.tick.0) behind_tick
  unfolding line_text
  line_is = refl

-- no field of a printable entry holds a space
pub record Free (e : LogEntry) : Type 0 where
  pub tick : Spaceless (decimal e.tick.0)
  pub word : Spaceless (event_word e.event)
  pub host : Spaceless (decimal e.host)
  pub resource : Spaceless (number_or_dash (has_lease e.event) e.resource)
  pub term : Spaceless (number_or_dash (has_lease e.event) e.term)
  pub until : Spaceless (number_or_dash (has_until e.event) e.until.0)

pub free : (e : LogEntry) (z : ℤ) → Ranges e z → Free e
free e z r =
    record {
      tick = spaceless_decimal e.tick.0 (omega (arith, r.tick));
      word = spaceless_word e.event;
      host = spaceless_decimal e.host (omega (arith, r.host));
      resource = spaceless_number (has_lease e.event) e.resource (omega (arith, r.resource));
      term = spaceless_number (has_lease e.event) e.term (omega (arith, r.term));
      until = spaceless_number (has_until e.event) e.until.0 (omega (arith, r.until));
    }

-- the pieces of a line, one after the other
pub joined : (a b c d f g o : List ℕ)
    → ((((((spaced a [] ++ spaced b []) ++ spaced c []) ++ spaced d []) ++ spaced f []) ++ spaced g []) ++ o) ++ 10 ∷ []
    ≡ spaced a (spaced b (spaced c (spaced d (spaced f (spaced g (o ++ 10 ∷ []))))))
joined a b c d f g o = simp append_assoc

-- entries or offsets that differ never print the same line
pub lines_differ : LinesDiffer
unfolding line_text
lines_differ e f y z p q same =
    let r = ranges e y p in
    let s = ranges f z q in
    let t = free e y r in
    let u = free f z s in
    let a = same_parts _ _ _ _ t.tick u.tick same in
    let b = same_parts _ _ _ _ t.word u.word a.1 in
    let c = same_parts _ _ _ _ t.host u.host b.1 in
    let d = same_parts _ _ _ _ t.resource u.resource c.1 in
    let g = same_parts _ _ _ _ t.term u.term d.1 in
    let h = same_parts _ _ _ _ t.until u.until g.1 in
    let event = same_event e.event f.event b.0 in
    let lease = ap has_lease event in
    let tick = decimal_injective e.tick.0 f.tick.0 (omega (arith, r.tick)) (omega (arith, s.tick)) a.0 in
    let host = decimal_injective e.host f.host (omega (arith, r.host)) (omega (arith, s.host)) c.0 in
    let resource = same_number (has_lease e.event) e.resource f.resource (omega (arith, r.resource)) (omega (arith, s.resource)) r.no_resource (λ n. s.no_resource (sym lease ∙ n)) (d.0 ∙ ap (λ b. number_or_dash b f.resource) (sym lease)) in
    let term = same_number (has_lease e.event) e.term f.term (omega (arith, r.term)) (omega (arith, s.term)) r.no_term (λ n. s.no_term (sym lease ∙ n)) (g.0 ∙ ap (λ b. number_or_dash b f.term) (sym lease)) in
    let until = same_number (has_until e.event) e.until.0 f.until.0 (omega (arith, r.until)) (omega (arith, s.until)) r.no_until (λ n. s.no_until (sym (ap has_until event) ∙ n)) (h.0 ∙ ap (λ b. number_or_dash b f.until.0) (sym (ap has_until event))) in
    let offset = same_offset y z r.offset s.offset (sym (all_but_last _ (offset_text y) 10 refl) ∙ all_but_last _ (offset_text z) 10 h.1) in (
      λ i. record { tick = record { 0 = tick i }; event = event i; host = host i; resource = resource i; term = term i; until = record { 0 = until i } },
      offset,
    )

-- what is found is what reading answers
pub reads_line : (text : List ℕ) (r : Option (LogEntry × ℤ)) → Found (λ p. PrintsLine p.0 p.1 text) r → ReadsLine text (ok_or r NotALine)
reads_line text None none = (refl, λ e z p. none (e, z) p)
reads_line text (Some q) found = (found.0, λ e z p. let same = found.1 (e, z) p in (ap (λ x. x.0) same, ap (λ x. x.1) same))
