-- What values and attributes that are lent are in the model.
use Rattle.std.specs.Prelude.{List, map, pos, string_bytes}
use Rattle.model_span.specs.Attributes as model
use Rattle.trace_api.specs.declared.lent.ValueRef.{ValueRef}
use Rattle.trace_api.specs.declared.lent.ValueRef.TheVariants.{Text, Bool, Int, Unsigned, Signed}
use Rattle.trace_api.specs.declared.lent.ValueRef.TheVariants.{Texts, Strings, Bools, Ints}
use Rattle.trace_api.specs.declared.lent.KeyValue.{KeyValue}
use Rattle.trace_api.specs.Whole.{whole_value}

-- a value that is lent (Common, Attribute)
abbrev pub lent_value : ValueRef → model.Value
lent_value (Text t) = model.text t.now
lent_value (Bool b) = model.bool b
lent_value (Int i) = model.int i
lent_value (Unsigned n) = whole_value (pos n)
lent_value (Signed i) = whole_value i
lent_value (Texts ts) = model.texts (map (λ t. t.now) ts.now)
lent_value (Strings ts) = model.texts (map string_bytes ts.now)
lent_value (Bools bs) = model.bools bs.now
lent_value (Ints is) = model.ints is.now

-- an attribute that is lent: its key, and its value
abbrev pub lent_pair : KeyValue → model.Attribute
lent_pair p = record { key = p.key.now; value = lent_value p.value }

-- attributes that are lent, in their order
abbrev pub lent_pairs : List KeyValue → List model.Attribute
lent_pairs pairs = map lent_pair pairs
