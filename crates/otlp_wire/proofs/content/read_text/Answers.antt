use Rattle.std.proofs.Common.{refl, sym, ◌∙◌}
use Rattle.std.specs.Str.{is_utf8}
use Rattle.std.proofs.lemmas.Str.{is_utf8-from_IsUtf8}
use Rattle.otlp_wire.proofs.ResponseMeaning.{not-utf8}
use Rattle.otlp_wire.proofs.content.read_text.Goals as goal

pub returns-in_ok-copy_text-in-Ok-clause-ok : goal.returns-in_ok-copy_text-in-Ok-clause-ok
returns-in_ok-copy_text-in-Ok-clause-ok g c = (
  rw (is_utf8-from_IsUtf8 c.args.bytes.now c.in-Ok.ensures.cases.1) refl,
  sym (c.in_ok-copy_text-in-Ok.ensures.value ∙ c.in-Ok.ensures.cases.0),
)

pub returns-in-Err-clause-err : goal.returns-in-Err-clause-err
returns-in-Err-clause-err g c =
    not-utf8 c.args.bytes.now c.in-Err.ensures.cases.0 (is_utf8 c.args.bytes.now) refl
