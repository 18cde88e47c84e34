use Rattle.std.proofs.Common.{◌∙◌, sym, subst}
use Rattle.std.specs.Str.Parse.{ParsesUnsigned}
use Rattle.http_wire.proofs.LengthLemmas.{length_parsed, digits_text}
use Rattle.http_wire.proofs.fields.read_length.Goals as goal

pub returns-in-Ok : goal.returns-in-Ok
returns-in-Ok c =
    let digits = sym c.is_digits.ensures ∙ c.if-not-is_digits.false in
    let parsed =
    subst
    (λ t. ParsesUnsigned 64 10 t c.parse.result) c.in-Ok.ensures.cases.0 c.parse.ensures.value.0 in
    c.ok.ensures.value ∙ length_parsed c.args.text.now c.parse.result digits parsed

pub returns-in-Err : goal.returns-in-Err
returns-in-Err c =
    absurd (c.in-Err.ensures.cases.0
    (digits_text c.args.text.now (sym c.is_digits.ensures ∙ c.if-not-is_digits.false)))
