-- What comes back of a span that is written in OTLP's JSON and read again: the span itself, but for
-- doubles that are no number, which JSON has one of.
use Rattle.std.specs.Prelude.{ℕ, map, if◌then◌else◌, is_nan, from_bits}
use Rattle.std.specs.Float.{binary64}
use Rattle.model_message.specs.AnyValue.{AnyValue, AnyValues, no_values, value, KeyValues, no_pairs}
use Rattle.model_message.specs.AnyValue.{pair}
use Rattle.model_message.specs.Messages.{Triple}
use Rattle.model_message.specs.Tables
use Rattle.model_message.specs.Tables.{Shape, text, bytes, bool, uint32, int64, enum, fixed64}
use Rattle.model_message.specs.Tables.{fixed32, any, message, repeated, Table, end, ◌⦂◌◂◌, ValueOf}
use Rattle.model_message.specs.Tables.{Message}
use Rattle.otlp_json.specs.Numbers.{nan_bits}

-- the bits of a double: all that are no number are one (Protocol Buffers, "ProtoJSON Format")
abbrev pub double_back : ℕ → ℕ
double_back bits = if is_nan (from_bits binary64 bits) then nan_bits else bits

unfoldable mutual
  -- a value, with its doubles, also those inside it
  pub value_back : AnyValue → AnyValue
  value_back AnyValue.none = AnyValue.none
  value_back (AnyValue.text t) = AnyValue.text t
  value_back (AnyValue.bool b) = AnyValue.bool b
  value_back (AnyValue.int i) = AnyValue.int i
  value_back (AnyValue.double bits) = AnyValue.double (double_back bits)
  value_back (AnyValue.array vs) = AnyValue.array (values_back vs)
  value_back (AnyValue.pairs ps) = AnyValue.pairs (pairs_back ps)
  value_back (AnyValue.bytes bs) = AnyValue.bytes bs

  -- those of an array
  pub values_back : AnyValues → AnyValues
  values_back no_values = no_values
  values_back (value v vs) = value (value_back v) (values_back vs)

  -- those of a list of pairs
  pub pairs_back : KeyValues → KeyValues
  pairs_back no_pairs = no_pairs
  pairs_back (pair k v ps) = pair k (value_back v) (pairs_back ps)

unfoldable mutual
  -- a field of a message: only the values of attributes have doubles
  pub shape_back : (s : Shape) → ValueOf s → ValueOf s
  shape_back text t = t
  shape_back bytes bs = bs
  shape_back bool b = b
  shape_back uint32 x = x
  shape_back int64 i = i
  shape_back enum i = i
  shape_back fixed64 x = x
  shape_back fixed32 x = x
  shape_back any v = value_back v
  shape_back (message t) r = message_back t r
  shape_back (repeated s) xs = map (shape_back s) xs

  -- a message, field by field
  pub message_back : (t : Table) → Message t → Message t
  message_back end r = r
  message_back (n ⦂ s ◂ t) r = (shape_back s r.0, message_back t r.1)

-- a span, with its resource and its scope
abbrev pub triple_back : Triple → Triple
triple_back t = record {
  resource = message_back Tables.resource t.resource;
  resource_schema = t.resource_schema;
  scope = message_back Tables.scope t.scope;
  scope_schema = t.scope_schema;
  span = message_back Tables.span t.span;
}
