use Rattle.std.proofs.Common.{◌≡◌, map, string_bytes, Some}
use Rattle.model_span.specs.Attributes.{first_chars}
use Rattle.otlp_value.proofs.Cutting.{with_first}
use Rattle.otlp_value.proofs.cut_texts.Given as goal

-- The texts so far are cut, and the others are as they were.
abbrev pub invariant-loop-text : goal.invariant-loop-text
invariant-loop-text g l =
    map string_bytes l.texts
    ≡ with_first (first_chars (Some l.length)) l.text-index (map string_bytes l.initial.texts)
