-- Values of attributes in JSON. (common.proto: AnyValue, ArrayValue, KeyValueList, KeyValue)
use Rattle.std.specs.Prelude.{ℕ, List, String, [], ◌∷◌, ◌++◌, codes, from_bits, string_bytes}
use Rattle.std.specs.Fmt.{signed_decimal}
use Rattle.std.specs.Float.{binary64}
use Rattle.std.specs.List.{flat_map}
use Rattle.base64.specs.GeneralPurpose.{encode_of}
use Rattle.base64.specs.Engines.{standard}
use Rattle.json.specs.Token.{begin_array, begin_object, boolean, end_array, end_object, key}
use Rattle.otlp_read.specs.declared.any_value.AnyValue.{AnyValue, fold-AnyValue}
use Rattle.otlp_read.specs.declared.any_value.AnyValue.TheOpen.{AnyValue-F}
use Rattle.otlp_json.specs.Seen.{Seen, Other, array_member, braces, float_seen, object_member, seen}
use Rattle.otlp_json.specs.Seen.{text_member}

-- the member of this name of a value with others in it: what comes before them, and what after
abbrev pub nested_front : List ℕ → List Seen
nested_front name = Other (key name) ∷ Other begin_object ∷ Other (key (codes "values"))
    ∷ Other begin_array ∷ []

abbrev pub nested_back : List Seen
nested_back = Other end_array ∷ Other end_object ∷ []

abbrev pub nested : List ℕ → List Seen → List Seen
nested name items = nested_front name ++ (items ++ nested_back)

-- The member `value` of a pair whose value has this member. A value that is empty has none, and is
-- left out: an absent one means the same. (common.proto: KeyValue; Protocol Buffers, "ProtoJSON
-- Format": a field that isn't set; that it is left out: profile)
abbrev pub value_member : List Seen → List Seen
value_member [] = []
value_member (first ∷ others) = object_member (codes "value") (first ∷ others)

-- a pair with this key, and with a value that has this member
abbrev pub pair_text : List ℕ → List Seen → List Seen
pair_text name member = braces (seen (text_member (codes "key") name) ++ value_member member)

abbrev pub pair_step : {A : Type 0} → String A × List Seen → List Seen
pair_step pair = pair_text (string_bytes pair.0) pair.1

-- the member of a value, where each value inside has this one
abbrev pub member_step : {A : Type 0} → AnyValue-F A (List Seen) → List Seen
member_step AnyValue-F.Empty = []
member_step (AnyValue-F.Text t) = seen (text_member (codes "stringValue") (string_bytes t))
member_step (AnyValue-F.Bool b) = Other (key (codes "boolValue")) ∷ Other (boolean b) ∷ []
member_step (AnyValue-F.Int i) = seen (text_member (codes "intValue") (signed_decimal i))
member_step (AnyValue-F.Double bits) =
    Other (key (codes "doubleValue")) ∷ float_seen (from_bits binary64 bits) ∷ []
member_step (AnyValue-F.Array v) = nested (codes "arrayValue") (flat_map braces v.items)
member_step (AnyValue-F.Pairs v) = nested (codes "kvlistValue") (flat_map pair_step v.items)
member_step (AnyValue-F.Bytes b) =
    seen (text_member (codes "bytesValue") (encode_of standard b.items))

-- the one member of a value, which says what it is; an empty value has none
abbrev pub member_seen : {A : Type 0} → AnyValue A → List Seen
member_seen {A} = fold-AnyValue A (List Seen) member_step

-- a value (common.proto: AnyValue)
abbrev pub value_seen : {A : Type 0} → AnyValue A → List Seen
value_seen value = braces (member_seen value)

-- a pair (common.proto: KeyValue)
abbrev pub pair_seen : {A : Type 0} → String A × AnyValue A → List Seen
pair_seen pair = pair_text (string_bytes pair.0) (member_seen pair.1)

-- attributes
abbrev pub attributes_member : {A : Type 0} → List (String A × AnyValue A) → List Seen
attributes_member pairs = array_member (codes "attributes") (flat_map pair_seen pairs)
