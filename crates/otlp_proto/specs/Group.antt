-- What groups of spans are in the model.
use Rattle.std.specs.Prelude.{List, map, Vec}
use Rattle.std.specs.Borrow.{Bor}
use Rattle.model_span.specs.Spans as spans
use Rattle.model_span.specs.Spans.{SpanData}
use Rattle.model_export.specs.Export as model
use Rattle.otlp_span.specs.declared.parts.Resource.{Resource}
use Rattle.otlp_span.specs.declared.parts.Scope.{Scope}
use Rattle.otlp_span.specs.Parts.{resource_view, scope_view}
use Rattle.otlp_proto.specs.declared.groups.ScopeGroup.{ScopeGroup}
use Rattle.otlp_proto.specs.declared.groups.ResourceGroup.{ResourceGroup}
use Rattle.otlp_proto.specs.Keyed.{group_view, groups_of}

abbrev pub scope_group_view : {A : Type 0} → ScopeGroup A → model.ScopeGroup
scope_group_view g = record { key = scope_view g.scope.now; items = map (λ s. s.now) g.spans.items }

abbrev pub resource_group_view : {A : Type 0} → ResourceGroup A → model.ResourceGroup
resource_group_view g =
    record { key = resource_view g.resource.now; items = map scope_group_view g.scopes.items }

abbrev pub groups_view : {A : Type 0} → List (ResourceGroup A) → List model.ResourceGroup
groups_view groups = map resource_group_view groups

-- the entries of a map from scopes to their spans
abbrev pub scopes_view :
    {A : Type 0} → List (Bor (Scope A) × Vec (Bor SpanData) A) → List model.ScopeGroup
scopes_view entries = map (group_view (λ s. scope_view s.now) (λ x. x.now)) (groups_of entries)

-- the entries of a map from resources to their spans
abbrev pub resources_view :
    {A : Type 0} → List (Bor (Resource A) × Vec (Bor SpanData) A)
    → List (model.Group spans.Resource SpanData)
resources_view entries =
    map (group_view (λ r. resource_view r.now) (λ x. x.now)) (groups_of entries)
