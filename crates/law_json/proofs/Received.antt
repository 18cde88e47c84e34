-- What is seen of the member of a value as received is what is seen of it in the model.
use Rattle.std.proofs.Common.{◌≡◌, refl, sym, ap, ap₂, ◌∙◌, subst, ℕ, List, [], ◌∷◌, ◌++◌}
use Rattle.std.proofs.Common.{append_assoc}
use Rattle.std.proofs.Common.{map, codes, String}
use Rattle.std.specs.Prelude.{string_bytes}
use Rattle.std.specs.List.{flat_map}
use Rattle.json.specs.Token.{key, end_array, end_object}
use Rattle.model_message.specs.AnyValue as protocol
use Rattle.model_message.specs.AnyValue.{as_values, as_pairs}
use Rattle.otlp_read.specs.declared.any_value.AnyValue.{AnyValue, map-AnyValue}
use Rattle.otlp_read.specs.declared.any_value.AnyValue.TheOpen.{AnyValue-F}
use Rattle.otlp_read.specs.declared.any_value.AnyValue.TheFolds.{fold-roll-AnyValue, ind-AnyValue}
use Rattle.otlp_read.specs.declared.any_value.AnyValue.TheViews.{roll-AnyValue}
use Rattle.otlp_read.specs.Values.{any_value_view, string_pair, view_step}
use Rattle.otlp_json.specs.Seen.{Seen, Other, braces, brackets}
use Rattle.view_json.specs.Values.{member_seen, member_step, nested, nested_front, pair_step}
use Rattle.view_json.specs.Values.{pair_text}
use Rattle.law_json.proofs.Values.{pairs_items, value_members, values_items}

-- a list of values, or of pairs, in a member of this name
nested_is : (name : List ℕ) (items : List Seen)
    → nested name items
    ≡ Other (key name) ∷ braces (Other (key (codes "values")) ∷ brackets items)
nested_is name items =
    ap (λ l. nested_front name ++ l)
    (sym (append_assoc items (Other end_array ∷ []) (Other end_object ∷ [])))

abbrev seen_value : {A : Type 0} → String A × AnyValue A → String A × List Seen
seen_value p = (p.0, member_seen p.1)

abbrev viewed_value : {A : Type 0} → String A × AnyValue A → String A × protocol.AnyValue
viewed_value p = (p.0, any_value_view p.1)

-- what is seen of one layer of a value, and what that is in the model
abbrev layer_seen : {A : Type 0} → AnyValue-F A (AnyValue A) → List Seen
layer_seen {A} (AnyValue-F.Array v) =
    nested (codes "arrayValue") (flat_map braces (map member_seen v.items))
layer_seen {A} (AnyValue-F.Pairs v) =
    nested (codes "kvlistValue") (flat_map pair_step (map seen_value v.items))
layer_seen {A} AnyValue-F.Empty = member_step {A = A} AnyValue-F.Empty
layer_seen {A} (AnyValue-F.Text t) = member_step {A = A} (AnyValue-F.Text t)
layer_seen {A} (AnyValue-F.Bool b) = member_step {A = A} (AnyValue-F.Bool b)
layer_seen {A} (AnyValue-F.Int i) = member_step {A = A} (AnyValue-F.Int i)
layer_seen {A} (AnyValue-F.Double d) = member_step {A = A} (AnyValue-F.Double d)
layer_seen {A} (AnyValue-F.Bytes b) = member_step {A = A} (AnyValue-F.Bytes b)

abbrev layer_view : {A : Type 0} → AnyValue-F A (AnyValue A) → protocol.AnyValue
layer_view {A} (AnyValue-F.Array v) =
    protocol.AnyValue.array (as_values (map any_value_view v.items))
layer_view {A} (AnyValue-F.Pairs v) =
    protocol.AnyValue.pairs
    (as_pairs (map string_pair (map viewed_value v.items)))
layer_view {A} AnyValue-F.Empty = view_step {A = A} AnyValue-F.Empty
layer_view {A} (AnyValue-F.Text t) = view_step {A = A} (AnyValue-F.Text t)
layer_view {A} (AnyValue-F.Bool b) = view_step {A = A} (AnyValue-F.Bool b)
layer_view {A} (AnyValue-F.Int i) = view_step {A = A} (AnyValue-F.Int i)
layer_view {A} (AnyValue-F.Double d) = view_step {A = A} (AnyValue-F.Double d)
layer_view {A} (AnyValue-F.Bytes b) = view_step {A = A} (AnyValue-F.Bytes b)

module _ {A : Type 0} where
  seen_rolled : (x : AnyValue-F A (AnyValue A)) → member_seen (roll-AnyValue A x) ≡ layer_seen x
  seen_rolled AnyValue-F.Empty = fold-roll-AnyValue A (List Seen) member_step AnyValue-F.Empty
  seen_rolled (AnyValue-F.Text t) =
      fold-roll-AnyValue A (List Seen) member_step (AnyValue-F.Text t)
  seen_rolled (AnyValue-F.Bool b) =
      fold-roll-AnyValue A (List Seen) member_step (AnyValue-F.Bool b)
  seen_rolled (AnyValue-F.Int i) = fold-roll-AnyValue A (List Seen) member_step (AnyValue-F.Int i)
  seen_rolled (AnyValue-F.Double d) =
      fold-roll-AnyValue A (List Seen) member_step (AnyValue-F.Double d)
  seen_rolled (AnyValue-F.Array v) =
      fold-roll-AnyValue A (List Seen) member_step (AnyValue-F.Array v)
  seen_rolled (AnyValue-F.Pairs v) =
      fold-roll-AnyValue A (List Seen) member_step (AnyValue-F.Pairs v)
  seen_rolled (AnyValue-F.Bytes b) =
      fold-roll-AnyValue A (List Seen) member_step (AnyValue-F.Bytes b)

  view_rolled : (x : AnyValue-F A (AnyValue A)) → any_value_view (roll-AnyValue A x) ≡ layer_view x
  view_rolled AnyValue-F.Empty =
      fold-roll-AnyValue A protocol.AnyValue view_step AnyValue-F.Empty
  view_rolled (AnyValue-F.Text t) =
      fold-roll-AnyValue A protocol.AnyValue view_step (AnyValue-F.Text t)
  view_rolled (AnyValue-F.Bool b) =
      fold-roll-AnyValue A protocol.AnyValue view_step (AnyValue-F.Bool b)
  view_rolled (AnyValue-F.Int i) =
      fold-roll-AnyValue A protocol.AnyValue view_step (AnyValue-F.Int i)
  view_rolled (AnyValue-F.Double d) =
      fold-roll-AnyValue A protocol.AnyValue view_step (AnyValue-F.Double d)
  view_rolled (AnyValue-F.Array v) =
      fold-roll-AnyValue A protocol.AnyValue view_step (AnyValue-F.Array v)
  view_rolled (AnyValue-F.Pairs v) =
      fold-roll-AnyValue A protocol.AnyValue view_step (AnyValue-F.Pairs v)
  view_rolled (AnyValue-F.Bytes b) =
      fold-roll-AnyValue A protocol.AnyValue view_step (AnyValue-F.Bytes b)

-- The member of a value is seen as that of its value in the model is.
abbrev Agrees : {A : Type 0} → AnyValue A → Type 0
Agrees v = member_seen v ≡ value_members (any_value_view v)

-- values with what is known of each
abbrev Known : Type 0 → Type 0
Known A = (v : AnyValue A) × Agrees v

values_are : {A : Type 0} (es : List (Known A))
    → flat_map braces (map member_seen (map (λ e. e.0) es))
    ≡ values_items (as_values (map any_value_view (map (λ e. e.0) es)))
unfolding value_members
values_are [] = refl
values_are (e ∷ es) = ap₂ (λ a b. braces a ++ b) e.1 (values_are es)

abbrev known_value : {A : Type 0} → String A × Known A → String A × AnyValue A
known_value p = (p.0, p.1.0)

pairs_are : {A : Type 0} (es : List (String A × Known A))
    → flat_map pair_step (map seen_value (map known_value es))
    ≡ pairs_items (as_pairs (map string_pair (map viewed_value (map known_value es))))
unfolding value_members
pairs_are [] = refl
pairs_are (e ∷ es) =
    ap₂ (λ v l. pair_text (string_bytes e.0) v ++ l) e.1.1 (pairs_are es)

abbrev LayerAgrees : {A : Type 0} → AnyValue-F A (AnyValue A) → Type 0
LayerAgrees x = layer_seen x ≡ value_members (layer_view x)

-- A layer agrees where each value in it does.
known_agrees : {A : Type 0} (y : AnyValue-F A (Known A))
    → LayerAgrees (map-AnyValue A (Known A) (AnyValue A) (λ e. e.0) y)
unfolding value_members
known_agrees AnyValue-F.Empty = refl
known_agrees (AnyValue-F.Text t) = refl
known_agrees (AnyValue-F.Bool b) = refl
known_agrees (AnyValue-F.Int i) = refl
known_agrees (AnyValue-F.Double d) = refl
known_agrees (AnyValue-F.Array v) =
    ap (nested (codes "arrayValue")) (values_are v.items) ∙ nested_is (codes "arrayValue") _
known_agrees (AnyValue-F.Pairs v) =
    ap (nested (codes "kvlistValue")) (pairs_are v.items) ∙ nested_is (codes "kvlistValue") _
known_agrees (AnyValue-F.Bytes b) = refl

-- The member of a value as received is seen as that of its value in the model.
pub member_is : {A : Type 0} (v : AnyValue A) → Agrees v
member_is {A} = ind-AnyValue A Agrees (λ x y is.
    seen_rolled x ∙ subst LayerAgrees is (known_agrees y)
    ∙ ap value_members (sym (view_rolled x)))
