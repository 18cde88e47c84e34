-- Resources and scopes are equal where all their parts are.
use Rattle.std.proofs.Common.{◌≡◌, refl, ap₂, subst, ℕ, List, [], ◌∷◌, Bool, true, false, ◌&&◌}
use Rattle.std.proofs.Common.{bytes_eq}
use Rattle.std.specs.Bool.{beq, Decides}
use Rattle.std.specs.Ordering.{int_eq}
use Rattle.std.proofs.lemmas.Bool.Decides.{Decides-int_eq}
use Rattle.std.proofs.lemmas.Slice.Eq.{bytes_eq-Decides}
use lib.Pointwise.{pointwise}
use Rattle.model_span.specs.Attributes.{Value, text, bool, int, texts, bools, ints, Attribute}
use Rattle.model_span.specs.Spans.{Resource, Scope}
use Rattle.model_export.specs.Export.{value_eq, attribute_eq, resource_eq, scope_eq}
use Rattle.model_export.proofs.Grouped.{same-resource, same-scope}

both : (s t : Bool) → s ≡ true → t ≡ true → (s && t) ≡ true
both s t h k = ap₂ (λ a b. a && b) h k

own-bytes : (bs : List ℕ) → bytes_eq bs bs ≡ true
own-bytes bs = (bytes_eq-Decides bs bs).1 refl

own-list : {A : Type 0} (same : A → A → Bool) → ((x : A) → same x x ≡ true) → (xs : List A)
    → pointwise same xs xs ≡ true
own-list same own [] = refl
own-list same own (x ∷ xs) = both (same x x) (pointwise same xs xs) (own x) (own-list same own xs)

own-bit : (b : Bool) → beq b b ≡ true
own-bit true = refl
own-bit false = refl

own-value : (v : Value) → value_eq v v ≡ true
own-value (text t) = own-bytes t
own-value (bool b) = own-bit b
own-value (int i) = (Decides-int_eq i i).1 refl
own-value (texts ts) = own-list bytes_eq own-bytes ts
own-value (bools bs) = own-list beq own-bit bs
own-value (ints is) = own-list int_eq (λ i. (Decides-int_eq i i).1 refl) is

own-attributes : (pairs : List Attribute) → pointwise attribute_eq pairs pairs ≡ true
own-attributes pairs =
    own-list attribute_eq
    (λ p.
    both (bytes_eq p.key p.key) (value_eq p.value p.value) (own-bytes p.key) (own-value p.value))
    pairs

-- The test of resources finds each equal to itself.
pub own-resource : (r : Resource) → resource_eq r r ≡ true
own-resource r = both _ _ (own-attributes r.attributes) (own-bytes r.schema)

-- The test of scopes finds each equal to itself.
pub own-scope : (s : Scope) → scope_eq s s ≡ true
own-scope s =
    both _ _ (own-bytes s.name)
    (both _ _ (own-bytes s.version) (both _ _ (own-attributes s.attributes) (own-bytes s.schema)))

-- The test of resources decides whether two resources are equal.
pub resource_eq-Decides : (r s : Resource) → Decides (resource_eq r s) (r ≡ s)
resource_eq-Decides r s =
    (same-resource r s, λ e. subst (λ z. resource_eq r z ≡ true) e (own-resource r))

-- The test of scopes decides whether two scopes are equal.
pub scope_eq-Decides : (r s : Scope) → Decides (scope_eq r s) (r ≡ s)
scope_eq-Decides r s = (same-scope r s, λ e. subst (λ z. scope_eq r z ≡ true) e (own-scope r))
