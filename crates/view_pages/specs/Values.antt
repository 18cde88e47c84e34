-- The attributes of a panel, and their values.
use Rattle.std.specs.Prelude.{ℕ, true, false, List, String, codes, string_bytes}
use Rattle.page_text.specs.Doubles.{page_text}
use Rattle.model_message.specs.AnyValue.{AnyValue, AnyValues, KeyValues, none, no_values, value}
use Rattle.model_message.specs.AnyValue.{no_pairs, pair}
use Rattle.otlp_read.specs.declared.any_value.AnyValue.{AnyValue as Received}
use Rattle.otlp_read.specs.Values.{any_value_view}
use Rattle.view_pages.specs.Html.{Html, Nothing, Markup, Text, Signed, Digits, ◌▹◌}

-- the number that the double with these 64 bits is
abbrev pub double_html : ℕ → Html
double_html bits = Markup (page_text bits)

abbrev pub bytes_html : List ℕ → Html
bytes_html bytes = Markup (codes "0x") ▹ Digits bytes

-- a value, where what is in an array or a list of pairs is a list of its own
unfoldable mutual
  pub value_html : AnyValue → Html
  value_html none = Markup (codes "<i>no value</i>")
  value_html (AnyValue.text t) = Text t
  value_html (AnyValue.bool true) = Markup (codes "true")
  value_html (AnyValue.bool false) = Markup (codes "false")
  value_html (AnyValue.int i) = Signed i
  value_html (AnyValue.double d) = double_html d
  value_html (AnyValue.array vs) = Markup (codes "<ul>") ▹ values_html vs ▹ Markup (codes "</ul>")
  value_html (AnyValue.pairs ps) = Markup (codes "<dl>") ▹ pairs_html ps ▹ Markup (codes "</dl>")
  value_html (AnyValue.bytes bs) = bytes_html bs

  pub values_html : AnyValues → Html
  values_html no_values = Nothing
  values_html (value v vs) = (Markup (codes "<li>") ▹ value_html v) ▹ values_html vs

  -- each key, and its value
  pub pairs_html : KeyValues → Html
  pairs_html no_pairs = Nothing
  pairs_html (pair key v ps) =
      (Markup (codes "<dt>") ▹ Text key ▹ Markup (codes "<dd>") ▹ value_html v) ▹ pairs_html ps

-- a value as it was received
abbrev pub any_html : {A : Type 0} → Received A → Html
any_html v = value_html (any_value_view v)

-- the same in an array
abbrev pub item_html : {A : Type 0} → Received A → Html
item_html v = Markup (codes "<li>") ▹ any_html v

-- a key, and its value
abbrev pub pair_html : {A : Type 0} → String A × Received A → Html
pair_html p =
    Markup (codes "<dt>") ▹ Text (string_bytes p.0) ▹ Markup (codes "<dd>") ▹ any_html p.1
