use Rattle.std.proofs.Common.{◌≡◌, sym, ◌∙◌, rules}
use Rattle.format.specs.Blocks.{Written, decoded}
use Rattle.format.proofs.Candidates.{checked}
use Rattle.format.proofs.Decoding.{found, exact}
use Rattle.format.proofs.lease.LeaseRecord.decode.Goals as goal

pub returns : goal.returns
returns c =
    let bytes = c.args.bytes.now in
    let meant = checked (λ x. Written x bytes) c.fields.result c.filter.result _ c.fields.ensures c.filter.ensures (λ y b p. search rules) in
    let e : c.ok_or.result ≡ decoded bytes = c.ok_or.ensures.value ∙ found bytes c.filter.result meant in
    record { answer = e; exact = λ x. (λ o. (exact bytes x).0 (sym e ∙ o), λ w. e ∙ (exact bytes x).1 w) }
