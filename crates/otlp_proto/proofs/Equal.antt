-- What the code's equality says of values is the equality of the model.
use Rattle.std.proofs.Common.{◌≡◌, refl, ap₂, List, [], ◌∷◌, map, Bool, ◌&&◌, String, string_bytes}
use Rattle.std.proofs.Common.{bytes_eq}
use lib.Pointwise.{pointwise}
use Rattle.otlp_value.specs.declared.Value.{Value}
use Rattle.otlp_value.specs.declared.Value.TheVariants as values
use Rattle.otlp_value.specs.Value.{value_view, attribute_view, attributes_view}
use Rattle.model_export.specs.Export.{value_eq, attribute_eq, resource_eq, scope_eq}
use Rattle.otlp_value.specs.contracts.ValuePartialEq.TheImpl as derived
use Rattle.std.specs.Borrow.{RattleType}
use Rattle.std.specs.declared.alloc.Allocator.{Ghosts}
use mir.Syntax.{Dict}
use Rattle.otlp_span.specs.declared.parts.Resource.{Resource}
use Rattle.otlp_span.specs.declared.parts.Scope.{Scope}
use Rattle.otlp_span.specs.Parts.{resource_view, scope_view}

-- The code's equality of lists, element by element, is that of the model.
pub lists-same : {A B : Type 0} (E : A → A → Bool) (F : B → B → Bool) (view : A → B)
    → ((x y : A) → E x y ≡ F (view x) (view y)) → (xs ys : List A)
    → pointwise E xs ys ≡ pointwise F (map view xs) (map view ys)
lists-same E F view same [] [] = refl
lists-same E F view same [] (y ∷ ys) = refl
lists-same E F view same (x ∷ xs) [] = refl
lists-same E F view same (x ∷ xs) (y ∷ ys) =
    ap₂ (λ a b. a && b) (same x y) (lists-same E F view same xs ys)

-- what the code's equality says of a value and one of each kind
abbrev pub Against : {A : Type 0} → (Value A → Value A → Bool) → Value A → Type 0
Against {A} V v =
    ((x : _) → V v (values.Text x) ≡ value_eq (value_view v) (value_view {A = A} (values.Text x)))
    × ((x : _) → V v (values.Bool x) ≡ value_eq (value_view v) (value_view {A = A} (values.Bool x)))
    × ((x : _) → V v (values.Int x) ≡ value_eq (value_view v) (value_view {A = A} (values.Int x)))
    × ((x : _)
    → V v (values.Texts x) ≡ value_eq (value_view v) (value_view {A = A} (values.Texts x)))
    × ((x : _)
    → V v (values.Bools x) ≡ value_eq (value_view v) (value_view {A = A} (values.Bools x)))
    × ((x : _) → V v (values.Ints x) ≡ value_eq (value_view v) (value_view {A = A} (values.Ints x)))

-- what the code's equality says of values of all kinds
pub record Compares {A : Type 0} (V : Value A → Value A → Bool) : Type 0 where
  pub text : (x : _) → Against V (values.Text x)
  pub truth : (x : _) → Against V (values.Bool x)
  pub number : (x : _) → Against V (values.Int x)
  pub texts : (x : _) → Against V (values.Texts x)
  pub truths : (x : _) → Against V (values.Bools x)
  pub numbers : (x : _) → Against V (values.Ints x)

against : {A : Type 0} (V : Value A → Value A → Bool) (v : Value A) → Against V v → (w : Value A)
    → V v w ≡ value_eq (value_view v) (value_view w)
against V v h (values.Text x) = h.0 x
against V v h (values.Bool x) = h.1 x
against V v h (values.Int x) = h.2 x
against V v h (values.Texts x) = h.3 x
against V v h (values.Bools x) = h.4 x
against V v h (values.Ints x) = h.5 x

-- An equality that is right for each pair of kinds is the model's equality of values.
pub values-same : {A : Type 0} (V : Value A → Value A → Bool) → Compares V → (v w : Value A)
    → V v w ≡ value_eq (value_view v) (value_view w)
values-same V h (values.Text x) w = against V (values.Text x) (h.text x) w
values-same V h (values.Bool x) w = against V (values.Bool x) (h.truth x) w
values-same V h (values.Int x) w = against V (values.Int x) (h.number x) w
values-same V h (values.Texts x) w = against V (values.Texts x) (h.texts x) w
values-same V h (values.Bools x) w = against V (values.Bools x) (h.truths x) w
values-same V h (values.Ints x) w = against V (values.Ints x) (h.numbers x) w

-- The code's equality of attributes is that of the model.
pub attributes-same : {A : Type 0} (S : String A → String A → Bool) (V : Value A → Value A → Bool)
    → ((s t : String A) → S s t ≡ bytes_eq (string_bytes s) (string_bytes t))
    → ((v w : Value A) → V v w ≡ value_eq (value_view v) (value_view w)) →
    (xs ys : List (String A × Value A))
    → pointwise (λ x y. S x.0 y.0 && V x.1 y.1) xs ys
    ≡ pointwise attribute_eq (attributes_view xs) (attributes_view ys)
attributes-same S V text value xs ys =
    lists-same _ attribute_eq attribute_view
    (λ x y. ap₂ (λ a b. a && b) (text x.0 y.0) (value x.1 y.1)) xs ys

-- The code's equality of values is that of the model.
pub value-same : (A : RattleType) (G : Ghosts A.Denot) (d e : Dict) (v w : Value A.Denot)
    → (derived.ghosts A G d e).eq v w ≡ value_eq (value_view v) (value_view w)
value-same A G d e = values-same (derived.ghosts A G d e).eq (record {
  text = λ s. ((λ t. refl), (λ x. refl), (λ x. refl), (λ x. refl), (λ x. refl), λ x. refl);
  truth = λ s. ((λ t. refl), (λ x. refl), (λ x. refl), (λ x. refl), (λ x. refl), λ x. refl);
  number = λ s. ((λ t. refl), (λ x. refl), (λ x. refl), (λ x. refl), (λ x. refl), λ x. refl);
  texts = λ s. (
    (λ t. refl),
    (λ x. refl),
    (λ x. refl),
    (λ x. lists-same _ bytes_eq string_bytes (λ t u. refl) s.items x.items),
    (λ x. refl),
    λ x. refl,
  );
  truths = λ s. ((λ t. refl), (λ x. refl), (λ x. refl), (λ x. refl), (λ x. refl), λ x. refl);
  numbers = λ s. ((λ t. refl), (λ x. refl), (λ x. refl), (λ x. refl), (λ x. refl), λ x. refl);
})

-- The code's equality of resources is that of the model.
pub resource-same : {A : Type 0} (S : String A → String A → Bool) (V : Value A → Value A → Bool)
    → ((s t : String A) → S s t ≡ bytes_eq (string_bytes s) (string_bytes t))
    → ((v w : Value A) → V v w ≡ value_eq (value_view v) (value_view w)) →
    (x y : Resource A)
    → (pointwise (λ p q. S p.0 q.0 && V p.1 q.1) x.attributes.items y.attributes.items
    && S x.schema_url y.schema_url)
    ≡ resource_eq (resource_view x) (resource_view y)
resource-same S V text value x y =
    ap₂ (λ a b. a && b) (attributes-same S V text value x.attributes.items y.attributes.items)
    (text x.schema_url y.schema_url)

-- The code's equality of scopes is that of the model.
pub scope-same : {A : Type 0} (S : String A → String A → Bool) (V : Value A → Value A → Bool)
    → ((s t : String A) → S s t ≡ bytes_eq (string_bytes s) (string_bytes t))
    → ((v w : Value A) → V v w ≡ value_eq (value_view v) (value_view w)) →
    (x y : Scope A)
    → (S x.name y.name
    && (S x.version y.version
    && (pointwise (λ p q. S p.0 q.0 && V p.1 q.1) x.attributes.items y.attributes.items
    && S x.schema_url y.schema_url)))
    ≡ scope_eq (scope_view x) (scope_view y)
scope-same S V text value x y =
    ap₂ (λ a b. a && b) (text x.name y.name)
    (ap₂ (λ a b. a && b) (text x.version y.version)
    (ap₂ (λ a b. a && b) (attributes-same S V text value x.attributes.items y.attributes.items)
    (text x.schema_url y.schema_url)))
