use Rattle.std.proofs.Common.{◌∙◌}
use Rattle.std.proofs.lemmas.Str.{IsUtf8-string_bytes}
use Rattle.otlp_value.proofs.Cutting.{cut-there, cut-none}
use Rattle.otlp_value.proofs.cut_text.Goals as goal

pub returns-in-Some : goal.returns-in-Some
returns-in-Some g c =
    let made = c.char_indices.ensures in
    c.truncate.ensures.bytes
    ∙ cut-there _ _ (c.in-Some.end, c.in-Some.field-0-1) c.char_indices.result c.nth.new.self
    (made.rest ∙ c.deref.ensures) made.offset
    (IsUtf8-string_bytes c.args.text.now) c.in-Some.ensures.ran

pub returns-in_default : goal.returns-in_default
returns-in_default g c =
    let made = c.char_indices.ensures in
    cut-none _ _ c.char_indices.result c.nth.new.self (made.rest ∙ c.deref.ensures) made.offset
    (IsUtf8-string_bytes c.args.text.now) c.in_default.ensures.ran
