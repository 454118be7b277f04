use Rattle.std.proofs.Common.{◌≡◌, ◌∙◌, subst, w32, arith, rules}
use Rattle.std.proofs.lemmas.Int.{to_z-of_z}
use Rattle.format.specs.Texts.{Adds}
use Rattle.format.specs.Logs.{has_lease, has_until, line_text}
use Rattle.format.proofs.Cutting.{two, whole}
use Rattle.format.proofs.Lines.{Typed, length_line, joined, shown}
use Rattle.format.proofs.line.line_of.Goals as goal

pub returns : goal.returns
unfolding line_text
returns c =
    let e = c.args.entry in
    let z = c.args.offset in
    let typed : Typed e z = record { tick = omega arith; host = omega arith; resource = omega arith; term = omega arith; until = omega arith; offset = c.ranges.offset } in
    let l = c.new-line.result in
    let offset = rw (to_z-of_z w32 z c.ranges.offset) at c.push_offset.ensures in
    let a = two l c.push_field.new.self c.push_event.new.line _ _ c.push_field.ensures c.push_event.ensures in
    let b = two l c.push_event.new.line c.push_field-2.new.self _ _ a c.push_field-2.ensures in
    let d = two l c.push_field-2.new.self c.push_field-3.new.self _ _ b c.push_field-3.ensures in
    let f = two l c.push_field-3.new.self c.push_field-4.new.self _ _ d c.push_field-4.ensures in
    let g = two l c.push_field-4.new.self c.push_field-5.new.self _ _ f c.push_field-5.ensures in
    let h = two l c.push_field-5.new.self c.push_offset.new.line _ _ g offset in
    let i = two l c.push_offset.new.line c.push.new.self _ _ h c.push.ensures in
    let host : c.from.result ≡ e.host = search rules in
    let resource = shown (has_lease e.event) e.resource c.then_some.result (search rules) in
    let term = shown (has_lease e.event) e.term c.then_some-2.result (search rules) in
    let until = shown (has_until e.event) e.until.0 c.then_some-3.result (search rules) in
    whole l c.push.new.self (line_text e z) c.new-line.ensures
    (subst (λ x. Adds l x c.push.new.self) (joined _ _ _ _ _ _ _ ∙ simp (host, resource, term, until)) i)
    (length_line e z typed)
