-- Ended spans, grouped by resource and by scope. (opentelemetry-proto, trace.proto: ResourceSpans,
-- ScopeSpans; that each is there once, the order, and equality by all fields: profile)
use Rattle.std.specs.Prelude.{◌≡◌, ◌≢◌, ◌↔◌, ℕ, ◌<◌, List, [], filter, flat_map, Bool, ◌&&◌, IsTrue}
use Rattle.std.specs.Prelude.{All, AllPairs, IsPermutation}
use Rattle.std.specs.List.{position_or_len}
use Rattle.model_span.specs.Spans.{Resource, Scope, SpanData}
use Rattle.model_export.specs.Export.{ResourceGroup, resource_eq, scope_eq, groups}

-- the spans of the groups, in order
abbrev pub spans_of : List ResourceGroup → List SpanData
spans_of gs = flat_map (λ g. flat_map (λ h. h.items) g.items) gs

-- whether the span has this resource and scope
abbrev pub is_of : Resource → Scope → SpanData → Bool
is_of r s x = resource_eq r x.resource && scope_eq s x.scope

-- how many spans come before the first one of the resource
abbrev pub first_of_resource : Resource → List SpanData → ℕ
first_of_resource r spans = position_or_len (λ x. resource_eq r x.resource) spans

-- how many spans come before the first one of the resource and scope
abbrev pub first_of_scope : Resource → Scope → List SpanData → ℕ
first_of_scope r s spans = position_or_len (is_of r s) spans

-- ---- equality

-- Resources are equal where all their parts are.
abbrev pub ResourceEqDecides : Type 0
ResourceEqDecides = (r s : Resource) → IsTrue (resource_eq r s) ↔ (r ≡ s)

-- Scopes are equal where all their parts are: the name alone is not enough.
abbrev pub ScopeEqDecides : Type 0
ScopeEqDecides = (r s : Scope) → IsTrue (scope_eq r s) ↔ (r ≡ s)

-- ---- the groups

-- The groups have each span just as often as the list of spans has it.
abbrev pub EachSpanIsGrouped : Type 0
EachSpanIsGrouped = (spans : List SpanData) → IsPermutation spans (spans_of (groups spans))

-- A group's spans are those with its resource and scope, in their order.
abbrev pub GroupsAreOfOneScope : Type 0
GroupsAreOfOneScope =
    (spans : List SpanData)
    → All (λ g. All (λ h. h.items ≡ filter (is_of g.key h.key) spans) g.items) (groups spans)

-- No two groups have the same resource.
abbrev pub EachResourceIsOnce : Type 0
EachResourceIsOnce = (spans : List SpanData) → AllPairs (λ g h. g.key ≢ h.key) (groups spans)

-- Under a resource each scope is there once.
abbrev pub EachScopeIsOnce : Type 0
EachScopeIsOnce =
    (spans : List SpanData) → All (λ g. AllPairs (λ h i. h.key ≢ i.key) g.items) (groups spans)

-- Each resource has a scope, and each scope a span.
abbrev pub NoGroupIsEmpty : Type 0
NoGroupIsEmpty =
    (spans : List SpanData)
    → All (λ g. (g.items ≢ []) × All (λ h. h.items ≢ []) g.items) (groups spans)

-- Resources are in the order of their first spans.
abbrev pub ResourcesAreInOrder : Type 0
ResourcesAreInOrder =
    (spans : List SpanData)
    → AllPairs (λ g h. first_of_resource g.key spans < first_of_resource h.key spans) (groups spans)

-- The scopes under a resource are in the order of their first spans.
abbrev pub ScopesAreInOrder : Type 0
ScopesAreInOrder =
    (spans : List SpanData)
    → All (λ g.
    AllPairs (λ h i. first_of_scope g.key h.key spans < first_of_scope g.key i.key spans) g.items)
    (groups spans)
