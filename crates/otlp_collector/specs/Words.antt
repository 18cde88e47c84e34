-- The words of values as they were received.
use Rattle.std.specs.Prelude.{ℕ, List, ◌∷◌, ◌++◌, String, string_bytes}
use Rattle.otlp_read.specs.declared.any_value.AnyValue.{AnyValue}
use Rattle.otlp_read.specs.Values.{any_value_view}
use Rattle.otlp_collector.specs.Lines.{text_word, value_word}

abbrev pub any_word : {A : Type 0} → AnyValue A → List ℕ
any_word v = value_word (any_value_view v)

-- a key, `=` (61) and its value
abbrev pub pair_word : {A : Type 0} → String A × AnyValue A → List ℕ
pair_word p = text_word (string_bytes p.0) ++ 61 ∷ any_word p.1
