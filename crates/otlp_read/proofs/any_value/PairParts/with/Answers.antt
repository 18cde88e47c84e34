use Rattle.std.proofs.Common.{◌≡◌, refl, arith, rules, Err}
use Rattle.model_message.specs.Tables.{text, any}
use Rattle.otlp_wire.specs.Fields.{field_of}
use Rattle.otlp_read.proofs.PairSteps.{pair-skips, pair-more, pair-too-deep}
use Rattle.otlp_read.proofs.PairSteps.{pair-row-fault}
use Rattle.otlp_read.proofs.any_value.PairParts.with.Goals as goal

pub returns-in_default-clause-ok : goal.returns-in_default-clause-ok
returns-in_default-clause-ok g c =
    pair-skips c.args.depth c.args.self c.last_bytes-key.result (field_of c.args.field)
    (c.last_bytes-key.ensures text refl) (c.in_default.ensures any refl)

pub returns-then-depth-eq0-clause-err : goal.returns-then-depth-eq0-clause-err
returns-then-depth-eq0-clause-err g c =
    pair-too-deep (field_of c.args.field) c.in-Some.content.now
    (c.in-Some.ensures any refl) c.args.depth (omega arith)

pub returns-in_err-value-clause-err : goal.returns-in_err-value-clause-err
returns-in_err-value-clause-err g c =
    let deep : c.args.depth ≡ 0 → ⊥ = λ z. omega (arith, z) in
    let bad =
    pair-row-fault (field_of c.args.field) c.in-Some.content.now
    (c.in-Some.ensures any refl) c.args.depth deep _ c.in_err-value.ensures.err in
    let told : c.from_residual.result ≡ Err c.in_err-value.field-0.0 = search rules in
    rw told
    bad

pub returns-clause-ok : goal.returns-clause-ok
returns-clause-ok g c =
    let deep : c.args.depth ≡ 0 → ⊥ = λ z. omega (arith, z) in
    pair-more c.args.depth c.args.self c.last_bytes-key.result c.in_ok-value.value
    (field_of c.args.field) c.in-Some.content.now (c.last_bytes-key.ensures text refl)
    (c.in-Some.ensures any refl) deep c.in_ok-value.ensures.whole c.in_ok-value.ensures.ok
