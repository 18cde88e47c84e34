-- What values, pairs and limits are in the model.
use Rattle.std.specs.Prelude.{◌≡◌, ◌<◌, List, String, false, length, map, string_bytes}
use Rattle.model_span.specs.Attributes as model
use Rattle.otlp_value.specs.declared.Value.{Value}
use Rattle.otlp_value.specs.declared.Value.TheVariants.{Text, Bool, Int, Texts, Bools, Ints}
use Rattle.otlp_value.specs.declared.Limits.{Limits}

abbrev pub value_view : {A : Type 0} → Value A → model.Value
value_view (Text t) = model.text (string_bytes t)
value_view (Bool b) = model.bool b
value_view (Int i) = model.int i
value_view (Texts ts) = model.texts (map string_bytes ts.items)
value_view (Bools bs) = model.bools bs.items
value_view (Ints is) = model.ints is.items

-- a copy of the value takes memory: of a text or an array that is not empty
abbrev pub CopyTakesMemory : {A : Type 0} → Value A → Type 0
CopyTakesMemory (Text t) = model.is_empty (string_bytes t) ≡ false
CopyTakesMemory (Bool b) = ⊥
CopyTakesMemory (Int i) = ⊥
CopyTakesMemory (Texts ts) = 0 < length ts.items
CopyTakesMemory (Bools bs) = 0 < length bs.items
CopyTakesMemory (Ints is) = 0 < length is.items

abbrev pub attribute_view : {A : Type 0} → String A × Value A → model.Attribute
attribute_view p = record { key = string_bytes p.0; value = value_view p.1 }

abbrev pub attributes_view : {A : Type 0} → List (String A × Value A) → List model.Attribute
attributes_view pairs = map attribute_view pairs

abbrev pub limits_view : Limits → model.Limits
limits_view l = record { count = l.count; length = l.value_length }
