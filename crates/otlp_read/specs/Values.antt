-- What values as received are in the model. (opentelemetry-proto, common.proto: AnyValue, KeyValue)
use Rattle.std.specs.Prelude.{List, String, map, string_bytes}
use Rattle.model_message.specs.AnyValue as protocol
use Rattle.model_message.specs.AnyValue.{as_values, as_pairs}
use Rattle.model_message.specs.Tables
use Rattle.model_message.specs.Tables.{Message, ◌▸◌}
use Rattle.otlp_read.specs.declared.any_value.AnyValue.{AnyValue, fold-AnyValue}
use Rattle.otlp_read.specs.declared.any_value.AnyValue.TheOpen.{AnyValue-F}

-- a key, and a value of the model
abbrev pub string_pair : {A : Type 0} → String A × protocol.AnyValue → Message Tables.key_value
string_pair p = string_bytes p.0 ▸ p.1 ▸ tt

-- one level, where each value inside is one of the model
abbrev pub view_step : {A : Type 0} → AnyValue-F A protocol.AnyValue → protocol.AnyValue
view_step AnyValue-F.Empty = protocol.AnyValue.none
view_step (AnyValue-F.Text t) = protocol.AnyValue.text (string_bytes t)
view_step (AnyValue-F.Bool b) = protocol.AnyValue.bool b
view_step (AnyValue-F.Int i) = protocol.AnyValue.int i
view_step (AnyValue-F.Double d) = protocol.AnyValue.double d
view_step (AnyValue-F.Array v) = protocol.AnyValue.array (as_values v.items)
view_step (AnyValue-F.Pairs v) = protocol.AnyValue.pairs (as_pairs (map string_pair v.items))
view_step (AnyValue-F.Bytes b) = protocol.AnyValue.bytes b.items

-- (common.proto: AnyValue)
abbrev pub any_value_view : {A : Type 0} → AnyValue A → protocol.AnyValue
any_value_view {A} = fold-AnyValue A protocol.AnyValue view_step

-- (common.proto: ArrayValue)
abbrev pub values_view : {A : Type 0} → List (AnyValue A) → List protocol.AnyValue
values_view vs = map any_value_view vs

-- (common.proto: KeyValue)
abbrev pub pair_view : {A : Type 0} → String A × AnyValue A → Message Tables.key_value
pair_view p = string_bytes p.0 ▸ any_value_view p.1 ▸ tt

-- (common.proto: KeyValueList)
abbrev pub pairs_view : {A : Type 0} → List (String A × AnyValue A)
    → List (Message Tables.key_value)
pairs_view ps = map pair_view ps
