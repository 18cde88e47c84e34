-- What each kind of value as received is in the model.
use Rattle.std.proofs.Common.{◌≡◌, refl, ap, ◌∙◌, ℕ, ℤ, List, [], ◌∷◌, map, Bool, Vec, String}
use Rattle.std.proofs.Common.{rules}
use Rattle.std.specs.String.{string_bytes}
use Rattle.model_message.specs.AnyValue as protocol
use Rattle.model_message.specs.AnyValue.{as_values, as_pairs}
use Rattle.otlp_read.specs.declared.any_value.AnyValue.{AnyValue, Empty, Text, Bool as Truth, Int}
use Rattle.otlp_read.specs.declared.any_value.AnyValue.{Double, Array, Pairs, Bytes, the_lemmas}
use Rattle.otlp_read.specs.Values.{string_pair, any_value_view, values_view, pair_view, pairs_view}

-- An empty value is no value in the model.
pub view-Empty : (A : Type 0) → any_value_view {A = A} Empty ≡ protocol.AnyValue.none
view-Empty A = search (rules, the_lemmas)

-- A text is a text of the same bytes in the model.
pub view-Text : {A : Type 0} (t : String A)
    → any_value_view (Text t) ≡ protocol.AnyValue.text (string_bytes t)
view-Text t = search (rules, the_lemmas)

-- A truth value is the same truth value in the model.
pub view-Bool : (A : Type 0) (b : Bool)
    → any_value_view {A = A} (Truth b) ≡ protocol.AnyValue.bool b
view-Bool A b = search (rules, the_lemmas)

-- An integer is the same integer in the model.
pub view-Int : (A : Type 0) (i : ℤ) → any_value_view {A = A} (Int i) ≡ protocol.AnyValue.int i
view-Int A i = search (rules, the_lemmas)

-- A double is a double of the same bits in the model.
pub view-Double : (A : Type 0) (d : ℕ)
    → any_value_view {A = A} (Double d) ≡ protocol.AnyValue.double d
view-Double A d = search (rules, the_lemmas)

-- An array is the array of its values in the model.
pub view-Array : {A : Type 0} (v : Vec (AnyValue A) A)
    → any_value_view (Array v) ≡ protocol.AnyValue.array (as_values (values_view v.items))
view-Array v = search (rules, the_lemmas)

pairs-step : {A : Type 0} (v : Vec (String A × AnyValue A) A)
    → any_value_view (Pairs v)
    ≡ protocol.AnyValue.pairs
    (as_pairs (map string_pair (map (λ p. (p.0, any_value_view p.1)) v.items)))
pairs-step v = search (rules, the_lemmas)

seen-pairs : {A : Type 0} (ps : List (String A × AnyValue A))
    → map string_pair (map (λ p. (p.0, any_value_view p.1)) ps) ≡ pairs_view ps
seen-pairs [] = refl
seen-pairs (p ∷ ps) = ap (λ l. pair_view p ∷ l) (seen-pairs ps)

-- A list of pairs is the list of the same keys with their values in the model.
pub view-Pairs : {A : Type 0} (v : Vec (String A × AnyValue A) A)
    → any_value_view (Pairs v) ≡ protocol.AnyValue.pairs (as_pairs (pairs_view v.items))
view-Pairs v = pairs-step v ∙ ap (λ l. protocol.AnyValue.pairs (as_pairs l)) (seen-pairs v.items)

-- Bytes are the same bytes in the model.
pub view-Bytes : {A : Type 0} (v : Vec ℕ A)
    → any_value_view (Bytes v) ≡ protocol.AnyValue.bytes v.items
view-Bytes v = search (rules, the_lemmas)
