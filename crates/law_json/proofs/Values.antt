-- Values of attributes: what is seen of them in JSON, the fields that this means, and what those
-- are read as.
use Rattle.std.proofs.Common.{◌≡◌, refl, sym, ap, subst, ℕ, zero, suc, ◌≤◌, ◌+◌, ◌*◌}
use Rattle.std.proofs.Common.{List, [], ◌∷◌, ◌++◌, arith, codes}
use Rattle.std.proofs.Common.{append-nil, if◌then◌else◌}
use Rattle.std.specs.Prelude.{from_bits}
use Rattle.std.specs.Int.{w64, cast_unsigned}
use Rattle.std.specs.Fmt.{signed_decimal}
use Rattle.std.specs.Float.{binary64}
use Rattle.base64.specs.GeneralPurpose.{encode_of}
use Rattle.base64.specs.Engines.{standard}
use Rattle.json.specs.Token.{key, string, boolean}
use Rattle.model_message.specs.AnyValue as protocol
use Rattle.model_message.specs.AnyValue.{AnyValue, AnyValues, no_values, KeyValues, no_pairs, pair}
use Rattle.model_message.specs.Wire.{Field, varint, i64, len}
use Rattle.model_message.specs.Canon.{bytes_field, message_field}
use Rattle.model_message.specs.Whole.{EachValue, EachPair}
use Rattle.otlp_json.specs.Bodies.{member, object}
use Rattle.otlp_json.specs.Names as names
use Rattle.otlp_json.specs.Names.{member_named, any_value_member, array_value_member}
use Rattle.otlp_json.specs.Names.{key_value_list_member, key_value_member}
use Rattle.otlp_json.specs.LeafNames as leaves
use Rattle.otlp_json.specs.MessageNames.{AnyMessage}
use Rattle.otlp_json.specs.MessageNames as messages
use Rattle.otlp_json.specs.Seen.{Seen, Other, braces, brackets, float_seen}
use Rattle.view_json.specs.Values.{value_member}
use Rattle.law_json.specs.Back.{double_back}
use Rattle.law_json.specs.Sound.{IsPairValue, IsSoundValue}
use Rattle.law_json.proofs.Fronts.{Takes, TakesItems, TakesMembers, TakesObject, each_member}
use Rattle.law_json.proofs.Fronts.{leaf_member}
use Rattle.law_json.proofs.Fronts.{nested_member, no_items, no_members, object_takes, then_items}
use Rattle.law_json.proofs.Fronts.{then_members}
use Rattle.law_json.proofs.Leaves.{bool_means, bytes_mean, double_means, int_means, text_means}

-- ---- what is seen

unfoldable mutual
  -- the one member of a value
  pub value_members : AnyValue → List Seen
  value_members AnyValue.none = []
  value_members (AnyValue.text t) = Other (key (codes "stringValue")) ∷ Other (string t) ∷ []
  value_members (AnyValue.bool b) = Other (key (codes "boolValue")) ∷ Other (boolean b) ∷ []
  value_members (AnyValue.int i) =
      Other (key (codes "intValue")) ∷ Other (string (signed_decimal i)) ∷ []
  value_members (AnyValue.double d) =
      Other (key (codes "doubleValue")) ∷ float_seen (from_bits binary64 d) ∷ []
  value_members (AnyValue.array vs) =
      Other (key (codes "arrayValue"))
      ∷ braces (Other (key (codes "values")) ∷ brackets (values_items vs))
  value_members (AnyValue.pairs ps) =
      Other (key (codes "kvlistValue"))
      ∷ braces (Other (key (codes "values")) ∷ brackets (pairs_items ps))
  value_members (AnyValue.bytes bs) =
      Other (key (codes "bytesValue")) ∷ Other (string (encode_of standard bs)) ∷ []

  -- the values of an array, one after another
  pub values_items : AnyValues → List Seen
  values_items no_values = []
  values_items (protocol.value v vs) = braces (value_members v) ++ values_items vs

  -- the pairs of a list of pairs
  pub pairs_items : KeyValues → List Seen
  pairs_items no_pairs = []
  pairs_items (pair k v ps) =
      braces
      (Other (key (codes "key")) ∷ Other (string k) ∷ value_member (value_members v))
      ++ pairs_items ps

-- ---- the fields that it means

-- the field of a pair whose value has these fields: one that has none is left out
abbrev pub value_fields : List Field → List Field
value_fields [] = []
value_fields (f ∷ fields) = message_field 2 (f ∷ fields) ∷ []

unfoldable mutual
  -- the one field of a value
  pub value_row : AnyValue → List Field
  value_row AnyValue.none = []
  value_row (AnyValue.text t) = bytes_field 1 t ∷ []
  value_row (AnyValue.bool b) = record { number = 2; payload = varint (if b then 1 else 0) } ∷ []
  value_row (AnyValue.int i) = record { number = 3; payload = varint (cast_unsigned w64 i) } ∷ []
  value_row (AnyValue.double d) = record { number = 4; payload = i64 (double_back d) } ∷ []
  value_row (AnyValue.array vs) = message_field 5 (values_row vs) ∷ []
  value_row (AnyValue.pairs ps) = message_field 6 (pairs_row ps) ∷ []
  value_row (AnyValue.bytes bs) = bytes_field 7 bs ∷ []

  -- the fields of an array
  pub values_row : AnyValues → List Field
  values_row no_values = []
  values_row (protocol.value v vs) = message_field 1 (value_row v) ∷ values_row vs

  -- the fields of a list of pairs
  pub pairs_row : KeyValues → List Field
  pairs_row no_pairs = []
  pairs_row (pair k v ps) =
      message_field 1 (bytes_field 1 k ∷ value_fields (value_row v)) ∷ pairs_row ps

-- the fields of a pair
abbrev pub pair_row : List ℕ → AnyValue → List Field
pair_row k v = bytes_field 1 k ∷ value_fields (value_row v)

-- ---- a text means these fields

-- An object of a value, whose members are taken at this depth.
value_object : (depth : ℕ) (v : AnyValue)
    → TakesMembers (object depth) messages.any_value (value_members v) (value_row v)
    → TakesObject (object (suc depth)) messages.any_value (value_members v) (value_row v)
value_object depth v h = object_takes depth messages.any_value (value_members v) (value_row v) h

-- The member of a pair's value is taken as its field.
abbrev TakesValue : (depth : ℕ) → AnyValue → Type 0
TakesValue depth v =
    TakesMembers (object depth) messages.key_value (value_member (value_members v))
    (value_fields (value_row v))

-- A value in an object, as the member of a pair.
value_held : (depth : ℕ) (v : AnyValue)
    → TakesMembers (object depth) messages.any_value (value_members v) (value_row v)
    → TakesMembers (object (suc depth)) messages.key_value
    (Other (key (codes "value")) ∷ braces (value_members v)) (message_field 2 (value_row v) ∷ [])
unfolding member_named key_value_member
value_held depth v h =
    let objects = object (suc depth) in
    subst (λ w. TakesMembers objects messages.key_value w (message_field 2 (value_row v) ∷ []))
    (ap (λ l. Other (key (codes "value")) ∷ l) (append-nil (braces (value_members v))))
    (then_members objects messages.key_value (codes "value") (braces (value_members v)) []
    (message_field 2 (value_row v) ∷ []) []
    (nested_member objects 2 messages.any_value (value_members v) (value_row v)
    (value_object depth v h))
    (no_members objects messages.key_value))

-- A pair, where the member of its value is taken.
pub pair_takes : (depth : ℕ) (k : List ℕ) (v : AnyValue) → TakesValue depth v
    → TakesObject (object (suc depth)) messages.key_value
    (Other (key (codes "key")) ∷ Other (string k) ∷ value_member (value_members v)) (pair_row k v)
unfolding member_named key_value_member
pair_takes depth k v h =
    object_takes depth messages.key_value _ (pair_row k v)
    (then_members (object depth) messages.key_value (codes "key") (Other (string k) ∷ [])
    (value_member (value_members v)) (bytes_field 1 k ∷ []) (value_fields (value_row v))
    (leaf_member (object depth) 1 leaves.text (Other (string k)) (len k) (text_means k)) h)

module _ (P : AnyValue → Type 0) where
  values_take : (depth : ℕ)
      → ((v : AnyValue) → P v
      → TakesMembers (object depth) messages.any_value (value_members v) (value_row v))
      → (vs : AnyValues) → EachValue P vs
      → TakesItems (object (suc depth)) 1 messages.any_value (values_items vs) (values_row vs)
  unfolding value_members value_row
  values_take depth take no_values h = no_items (object (suc depth)) 1 messages.any_value
  values_take depth take (protocol.value v vs) h =
      then_items (object (suc depth)) 1 messages.any_value (value_members v) (values_items vs)
      (value_row v) (values_row vs) (value_object depth v (take v h.0))
      (values_take depth take vs h.1)

  pairs_take : (depth : ℕ) → ((v : AnyValue) → P v → TakesValue depth v) → (ps : KeyValues)
      → EachPair P ps
      → TakesItems (object (suc depth)) 1 messages.key_value (pairs_items ps) (pairs_row ps)
  unfolding value_members value_row
  pairs_take depth take no_pairs h = no_items (object (suc depth)) 1 messages.key_value
  pairs_take depth take (pair k v ps) h =
      then_items (object (suc depth)) 1 messages.key_value _ (pairs_items ps) (pair_row k v)
      (pairs_row ps) (pair_takes depth k v (take v h.1)) (pairs_take depth take ps h.2)

-- one member, which is all
one_member : (depth : ℕ) (name : List ℕ) (what : List Seen) (fields : List Field)
    → Takes (member (object depth) (any_value_member name)) what fields
    → TakesMembers (object depth) messages.any_value (Other (key name) ∷ what) fields
unfolding member_named
one_member depth name what fields h =
    subst (λ w. TakesMembers (object depth) messages.any_value (Other (key name) ∷ w) fields)
    (append-nil what)
    (subst (λ f. TakesMembers (object depth) messages.any_value (Other (key name) ∷ (what ++ [])) f)
    (append-nil fields)
    (then_members (object depth) messages.any_value name what [] fields [] h
    (no_members (object depth) messages.any_value)))

-- An object of one member, which is a list of messages.
list_object : (depth : ℕ) (outer inner : AnyMessage) (what : List Seen) (fields : List Field)
    → member_named outer (codes "values") ≡ names.each 1 inner
    → TakesItems (object depth) 1 inner what fields
    → TakesObject (object (suc depth)) outer (Other (key (codes "values")) ∷ brackets what) fields
list_object depth outer inner what fields named h =
    object_takes depth outer _ fields
    (subst (λ w. TakesMembers (object depth) outer (Other (key (codes "values")) ∷ w) fields)
    (append-nil (brackets what))
    (subst
    (λ f.
    TakesMembers (object depth) outer (Other (key (codes "values")) ∷ (brackets what ++ [])) f)
    (append-nil fields)
    (then_members (object depth) outer (codes "values") (brackets what) [] fields []
    (subst (λ m. Takes (member (object depth) m) (brackets what) fields) (sym named)
    (each_member (object depth) 1 inner what fields h))
    (no_members (object depth) outer))))

array_named : member_named messages.array_value (codes "values")
    ≡ names.each 1 messages.any_value
unfolding member_named array_value_member
array_named = refl

pairs_named : member_named messages.key_value_list (codes "values")
    ≡ names.each 1 messages.key_value
unfolding member_named key_value_list_member
pairs_named = refl

-- What is taken of a value of a number of levels, where each takes three objects: after the last
-- one there may be a pair without a value.
abbrev pub Taking : ℕ → Type 0
Taking levels =
    (depth : ℕ) (v : AnyValue) → IsSoundValue levels v → 3 * levels ≤ depth + 1
    → TakesMembers (object depth) messages.any_value (value_members v) (value_row v)

-- What holds of a value holds of it in a pair.
pub sound_in_pair : (P : AnyValue → Type 0) (v : AnyValue) → P v → IsPairValue P v
sound_in_pair P AnyValue.none h = tt
sound_in_pair P (AnyValue.text t) h = h
sound_in_pair P (AnyValue.bool b) h = h
sound_in_pair P (AnyValue.int i) h = h
sound_in_pair P (AnyValue.double d) h = h
sound_in_pair P (AnyValue.array vs) h = h
sound_in_pair P (AnyValue.pairs ps) h = h
sound_in_pair P (AnyValue.bytes bs) h = h

-- The value of a pair is taken: one that is none takes no level, and any other those that it has.
pub value_taken : (levels depth : ℕ) (v : AnyValue) → Taking levels
    → IsPairValue (IsSoundValue levels) v → 3 * levels ≤ depth → TakesValue depth v
unfolding IsSoundValue value_members value_row
value_taken levels depth AnyValue.none take h room = no_members (object depth) messages.key_value
value_taken zero depth v take h room = absurd h
value_taken (suc levels) zero v take h room = absurd (omega (arith, room))
value_taken (suc levels) (suc depth) v take h room =
    value_held depth v (take depth v h (omega (arith, room)))

array_items : (levels depth : ℕ) (vs : AnyValues) → Taking levels
    → EachValue (IsSoundValue levels) vs → 3 * levels + 1 ≤ depth
    → TakesItems (object depth) 1 messages.any_value (values_items vs) (values_row vs)
unfolding IsSoundValue value_members value_row
array_items levels zero vs take h room = absurd (omega (arith, room))
array_items levels (suc depth) vs take h room =
    values_take (IsSoundValue levels) depth (λ w k. take depth w k (omega (arith, room))) vs h

list_items : (levels depth : ℕ) (ps : KeyValues) → Taking levels
    → EachPair (IsPairValue (IsSoundValue levels)) ps → 3 * levels + 1 ≤ depth
    → TakesItems (object depth) 1 messages.key_value (pairs_items ps) (pairs_row ps)
unfolding IsSoundValue value_members value_row
list_items levels zero ps take h room = absurd (omega (arith, room))
list_items levels (suc depth) ps take h room =
    pairs_take (IsPairValue (IsSoundValue levels)) depth
    (λ w j. value_taken levels depth w take j (omega (arith, room))) ps h

-- A value means its fields.
pub value_takes : (levels : ℕ) → Taking levels
unfolding IsSoundValue value_members value_row any_value_member
value_takes zero depth v h room = absurd h
value_takes (suc levels) depth AnyValue.none h room = no_members (object depth) messages.any_value
value_takes (suc levels) depth (AnyValue.text t) h room =
    one_member depth (codes "stringValue") _ _
    (leaf_member (object depth) 1 leaves.text (Other (string t)) (len t) (text_means t))
value_takes (suc levels) depth (AnyValue.bool b) h room =
    one_member depth (codes "boolValue") _ _
    (leaf_member (object depth) 2 leaves.bool (Other (boolean b)) _ (bool_means b))
value_takes (suc levels) depth (AnyValue.int i) h room =
    one_member depth (codes "intValue") _ _
    (leaf_member (object depth) 3 leaves.int64 (Other (string (signed_decimal i))) _
    (int_means i h.sfits))
value_takes (suc levels) depth (AnyValue.double d) h room =
    one_member depth (codes "doubleValue") _ _
    (leaf_member (object depth) 4 leaves.double (float_seen (from_bits binary64 d)) _
    (double_means d h))
value_takes (suc levels) depth (AnyValue.bytes bs) h room =
    one_member depth (codes "bytesValue") _ _
    (leaf_member (object depth) 7 leaves.bytes (Other (string (encode_of standard bs))) _
    (bytes_mean bs h))
value_takes (suc levels) zero (AnyValue.array vs) h room = absurd (omega (arith, room))
value_takes (suc levels) (suc depth) (AnyValue.array vs) h room =
    one_member (suc depth) (codes "arrayValue") _ _
    (nested_member (object (suc depth)) 5 messages.array_value _ (values_row vs)
    (list_object depth messages.array_value messages.any_value (values_items vs) (values_row vs)
    array_named (array_items levels depth vs (value_takes levels) h (omega (arith, room)))))
value_takes (suc levels) zero (AnyValue.pairs ps) h room = absurd (omega (arith, room))
value_takes (suc levels) (suc depth) (AnyValue.pairs ps) h room =
    one_member (suc depth) (codes "kvlistValue") _ _
    (nested_member (object (suc depth)) 6 messages.key_value_list _ (pairs_row ps)
    (list_object depth messages.key_value_list messages.key_value (pairs_items ps) (pairs_row ps)
    pairs_named (list_items levels depth ps (value_takes levels) h (omega (arith, room)))))
