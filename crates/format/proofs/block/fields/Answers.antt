use Rattle.std.proofs.Common.{◌≡◌, ℕ, Ok, Err, Some, None, Result, length, ap, ◌∙◌, rules}
use Rattle.std.specs.Result.{result_ok}
use Rattle.disk.specs.declared.fault.Refusal.{Refusal}
use Rattle.format.specs.declared.lease.Kind.{Kind}
use Rattle.format.specs.Blocks.{ReadsKind, kind_number}
use Rattle.format.proofs.Decoding.{length_block, of_bytes, kind_of_bytes}
use Rattle.format.proofs.block.fields.Goals as goal

some_kind : (n : ℕ) (r : Result Kind Refusal) (kind : Kind) → ReadsKind n r → Some kind ≡ result_ok r → n ≡ kind_number kind
some_kind n (Ok k) kind h e = let same : k ≡ kind = cc in h ∙ ap kind_number same
some_kind n (Err refusal) kind h e = cc

no_kind : (n : ℕ) (r : Result Kind Refusal) (kind : Kind) → ReadsKind n r → None ≡ result_ok r → n ≡ kind_number kind → ⊥
no_kind n (Ok k) kind h e = search rules
no_kind n (Err refusal) kind h e = h.1 kind

pub returns-in_err-bytes : goal.returns-in_err-bytes
returns-in_err-bytes c = rw c.from_residual.ensures (λ x w. let long : length c.args.bytes.now ≡ 512 = ap length w.1 ∙ length_block x in search rules)

pub returns-in_err-ok : goal.returns-in_err-ok
returns-in_err-ok c =
    let same : c.in_ok-bytes.bytes.now ≡ c.args.bytes.now = search rules in
    rw c.from_residual-in_err-ok.ensures (λ x w. no_kind _ c.try_from.result x.kind c.try_from.ensures c.in_err-ok.ensures.value (kind_of_bytes x _ (w.0, same ∙ w.1)))

pub returns : goal.returns
returns c x w =
    let same : c.in_ok-bytes.bytes.now ≡ c.args.bytes.now = search rules in
    of_bytes x c.in_ok-bytes.bytes.now (w.0, same ∙ w.1) c.in_ok-ok.field-0 _ _ _ (some_kind _ c.try_from.result c.in_ok-ok.field-0 c.try_from.ensures c.in_ok-ok.ensures.value) c.from_be_bytes.ensures c.from_be_bytes-2.ensures c.from_be_bytes-3.ensures
