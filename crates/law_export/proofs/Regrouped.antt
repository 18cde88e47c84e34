-- The groups of spans by resource and scope.
use Rattle.std.proofs.Common.{◌≡◌, ◌≢◌, refl, sym, ap, subst, ◌<◌, List, [], ◌∷◌, map, filter}
use Rattle.std.proofs.Common.{flat_map, get_or}
use Rattle.std.specs.List.{All, AllPairs}
use Rattle.std.specs.List.Sorted.{IsPermutation}
use Rattle.std.proofs.lemmas.List.Elements.{All-map, All-weaker}
use Rattle.std.proofs.lemmas.List.Folds.{flat_map-map}
use Rattle.std.proofs.lemmas.List.Sorted.{IsPermutation-trans}
use Rattle.model_span.specs.Spans.{Resource, Scope, SpanData}
use Rattle.model_export.specs.Export.{ScopeGroup, ResourceGroup, resource_eq, scope_eq, groups_by}
use Rattle.model_export.specs.Export.{groups}
use Rattle.law_export.specs.Grouping.{spans_of, is_of, first_of_resource, first_of_scope}
use Rattle.law_export.proofs.Lists.{all-pairs-map, distinct-apart, distinct-in_order, place-filter}
use Rattle.law_export.proofs.Lists.{filter-filter}
use Rattle.model_export.proofs.Equalities.{resource_eq-Decides, scope_eq-Decides}
use Rattle.law_export.proofs.Parts.{part, keys, not-nothing, flat_map-permutes, parts-not-empty}
use Rattle.law_export.proofs.Parts.{keys-not-empty, parts-permute}

-- ---- the groups as maps of keys

abbrev scope_at : SpanData → Scope
scope_at x = x.scope

abbrev resource_at : SpanData → Resource
resource_at x = x.resource

abbrev of_scope : List SpanData → Scope → List SpanData
of_scope = part scope_eq scope_eq-Decides scope_at

abbrev scopes : List SpanData → List Scope
scopes = keys scope_eq scope_eq-Decides scope_at

abbrev of_resource : List SpanData → Resource → List SpanData
of_resource = part resource_eq resource_eq-Decides resource_at

abbrev resources : List SpanData → List Resource
resources = keys resource_eq resource_eq-Decides resource_at

abbrev scope_group : List SpanData → Scope → ScopeGroup
scope_group spans s = record { key = s; items = of_scope spans s }

abbrev resource_group : List SpanData → Resource → ResourceGroup
resource_group spans r = record {
  key = r;
  items = map (scope_group (of_resource spans r)) (scopes (of_resource spans r));
}

map-map : {A B C : Type 0} (f : B → C) (g : A → B) (xs : List A)
    → map f (map g xs) ≡ map (λ x. f (g x)) xs
map-map f g [] = refl
map-map f g (x ∷ xs) = ap (λ l. f (g x) ∷ l) (map-map f g xs)

groups-are : (spans : List SpanData) → groups spans ≡ map (resource_group spans) (resources spans)
unfolding groups groups_by
groups-are spans = map-map _ _ (resources spans)

-- A property of the groups as maps of keys holds of the groups.
of-groups : (spans : List SpanData) (P : List ResourceGroup → Type 0)
    → P (map (resource_group spans) (resources spans)) → P (groups spans)
of-groups spans P h = subst P (sym (groups-are spans)) h

-- A property of the group of any resource holds of each group.
each-group : (spans : List SpanData) (P : ResourceGroup → Type 0)
    → ((r : Resource) → P (resource_group spans r)) → All P (groups spans)
each-group spans P h =
    of-groups spans (All P)
    (All-map P (resource_group spans) (resources spans)
    (λ k d within. h (get_or (resources spans) k d)))

-- ---- the laws

-- The groups have each span just as often as the list of spans has it.
pub all-grouped : (spans : List SpanData) → IsPermutation spans (spans_of (groups spans))
all-grouped spans = of-groups spans (λ gs. IsPermutation spans (spans_of gs))
    (subst (IsPermutation spans)
    (sym (flat_map-map (λ g. flat_map (λ h. h.items) g.items) (resource_group spans)
    (resources spans)))
    (IsPermutation-trans spans (flat_map (of_resource spans) (resources spans))
    (flat_map (λ r. flat_map (λ h. h.items) (resource_group spans r).items) (resources spans))
    (parts-permute resource_eq resource_eq-Decides resource_at spans)
    (flat_map-permutes (of_resource spans)
    (λ r. flat_map (λ h. h.items) (resource_group spans r).items) inside (resources spans))))
  where
    inside : (r : Resource)
        → IsPermutation (of_resource spans r)
        (flat_map (λ h. h.items) (resource_group spans r).items)
    inside r =
        subst (IsPermutation (of_resource spans r))
        (sym (flat_map-map (λ h. h.items) (scope_group (of_resource spans r))
        (scopes (of_resource spans r))))
        (parts-permute scope_eq scope_eq-Decides scope_at (of_resource spans r))

-- A group's spans are those with its resource and scope, in their order.
pub of-one-scope : (spans : List SpanData)
    → All (λ g. All (λ h. h.items ≡ filter (is_of g.key h.key) spans) g.items) (groups spans)
of-one-scope spans =
    each-group spans (λ g. All (λ h. h.items ≡ filter (is_of g.key h.key) spans) g.items) (λ r.
    All-map (λ h. h.items ≡ filter (is_of r h.key) spans) (scope_group (of_resource spans r))
    (scopes (of_resource spans r))
    (λ k d within. filter-filter (λ x. resource_eq r x.resource)
    (λ x. scope_eq (get_or (scopes (of_resource spans r)) k d) x.scope) spans))

-- No two groups have the same resource.
pub resource-once : (spans : List SpanData) → AllPairs (λ g h. g.key ≢ h.key) (groups spans)
resource-once spans = of-groups spans (AllPairs (λ g h. g.key ≢ h.key))
    (all-pairs-map (resource_group spans) (λ g h. g.key ≢ h.key) (resources spans)
    (distinct-apart resource_eq resource_eq-Decides (map resource_at spans)))

-- No two groups under a resource have the same scope.
pub scope-once : (spans : List SpanData)
    → All (λ g. AllPairs (λ h i. h.key ≢ i.key) g.items) (groups spans)
scope-once spans = each-group spans (λ g. AllPairs (λ h i. h.key ≢ i.key) g.items) (λ r.
    all-pairs-map (scope_group (of_resource spans r)) (λ h i. h.key ≢ i.key)
    (scopes (of_resource spans r))
    (distinct-apart scope_eq scope_eq-Decides (map scope_at (of_resource spans r))))

map-not-empty : {A B : Type 0} (f : A → B) (xs : List A) → xs ≢ [] → map f xs ≢ []
map-not-empty f [] h = absurd (h refl)
map-not-empty f (x ∷ xs) h = not-nothing (f x) (map f xs)

abbrev HasSpans : ResourceGroup → Type 0
HasSpans g = (g.items ≢ []) × All (λ h. h.items ≢ []) g.items

-- Each resource has a scope, and each scope has a span.
pub none-empty : (spans : List SpanData) → All HasSpans (groups spans)
none-empty spans =
    of-groups spans (All HasSpans) (All-map HasSpans (resource_group spans) (resources spans)
    (All-weaker (λ r. of_resource spans r ≢ []) (λ r. HasSpans (resource_group spans r)) has
    (resources spans) (parts-not-empty resource_eq resource_eq-Decides resource_at spans)))
  where
    has : (r : Resource) → of_resource spans r ≢ [] → HasSpans (resource_group spans r)
    has r h = (
      map-not-empty (scope_group (of_resource spans r)) (scopes (of_resource spans r))
          (keys-not-empty scope_eq scope_eq-Decides scope_at (of_resource spans r) h),
      All-map (λ i. i.items ≢ []) (scope_group (of_resource spans r)) (scopes (of_resource spans r))
          (parts-not-empty scope_eq scope_eq-Decides scope_at (of_resource spans r)),
    )

-- The resources are in the order of their first spans.
pub resources-in-order : (spans : List SpanData)
    → AllPairs (λ g h. first_of_resource g.key spans < first_of_resource h.key spans) (groups spans)
resources-in-order spans =
    of-groups spans
    (AllPairs (λ g h. first_of_resource g.key spans < first_of_resource h.key spans))
    (all-pairs-map (resource_group spans)
    (λ g h. first_of_resource g.key spans < first_of_resource h.key spans) (resources spans)
    (distinct-in_order resource_eq resource_eq-Decides resource_at spans))

-- The scopes under a resource are in the order of their first spans.
pub scopes-in-order : (spans : List SpanData)
    → All (λ g.
    AllPairs (λ h i. first_of_scope g.key h.key spans < first_of_scope g.key i.key spans) g.items)
    (groups spans)
scopes-in-order spans =
    each-group spans
    (λ g.
    AllPairs (λ h i. first_of_scope g.key h.key spans < first_of_scope g.key i.key spans) g.items)
    (λ r.
    all-pairs-map (scope_group (of_resource spans r))
    (λ h i. first_of_scope r h.key spans < first_of_scope r i.key spans)
    (scopes (of_resource spans r))
    (λ i j d below within. place-filter (λ x. resource_eq r x.resource)
    (λ x. scope_eq (get_or (scopes (of_resource spans r)) i d) x.scope)
    (λ x. scope_eq (get_or (scopes (of_resource spans r)) j d) x.scope) spans
    (distinct-in_order scope_eq scope_eq-Decides scope_at
    (of_resource spans r) i j d below within)))
