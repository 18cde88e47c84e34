-- The spans of a request, each with its resource and its scope.
use Rattle.std.specs.Prelude.{◌≡◌, ℕ, ◌+◌, ◌++◌, ◌||◌, Bool, false, if◌then◌else◌, List, [], ◌∷◌}
use Rattle.std.specs.Prelude.{All, map, nat_eq}
use Rattle.std.specs.Arc.{arc_value}
use Rattle.std.specs.List.{flat_map}
use Rattle.otlp_read.specs.declared.request.Request.{Request}
use Rattle.otlp_read.specs.declared.request.ResourceSpans.{ResourceSpans}
use Rattle.otlp_read.specs.declared.request.ScopeSpans.{ScopeSpans}
use Rattle.otlp_read.specs.declared.span.Span.{Span}
use Rattle.std.specs.declared.sync.Arc.{Arc}
use Rattle.trace_store.specs.declared.span.ViewResource.{ViewResource}
use Rattle.trace_store.specs.declared.span.ViewScope.{ViewScope}
use Rattle.trace_store.specs.declared.span.ViewSpan.{ViewSpan}
use Rattle.trace_store.specs.Keys.{trace_key}
use Rattle.otlp_read.specs.Memory.{at_most_64_bits}
use Rattle.trace_store.specs.Sizes.{resource_bytes, scope_bytes}

-- A span, with the resource and the scope that it is under (trace.proto: ResourceSpans,
-- ScopeSpans), and how many bytes of these are counted as its own.
pub record Placed (A : Type 0) : Type 0 where
  pub resource : ViewResource A
  pub scope : ViewScope A
  pub span : Span A
  pub shared : ℕ

-- the number of the trace of a span
abbrev pub trace_of : {A : Type 0} → Span A → ℕ
trace_of span = trace_key span.trace_id.items

-- of which traces there were spans
abbrev pub TraceSet : Type 0
TraceSet = ℕ → Bool

abbrev pub no_trace : TraceSet
no_trace trace = false

-- these traces, and one more
abbrev pub and_trace : TraceSet → ℕ → TraceSet
and_trace before trace other = nat_eq other trace || before other

-- these traces, and those of spans
abbrev pub and_spans : {A : Type 0} → TraceSet → List (Span A) → TraceSet
and_spans before [] = before
and_spans before (span ∷ spans) = and_spans (and_trace before (trace_of span)) spans

-- What spans share takes so many bytes: they are counted with the first span of each trace, so none
-- with a span of a trace of which there were spans before. (profile)
abbrev pub share_of : ℕ → TraceSet → ℕ → ℕ
share_of bytes before trace = if before trace then 0 else bytes

-- the shares of a resource and of a scope that are counted with a span of a trace, at most what 64
-- bits hold
abbrev pub shares_of : {A : Type 0} → ViewResource A → ViewScope A → TraceSet → TraceSet → ℕ → ℕ
shares_of resource scope of_resource of_scope trace =
    at_most_64_bits (share_of (resource_bytes resource) of_resource trace
    + share_of (scope_bytes scope) of_scope trace)

-- Spans under a resource and a scope, after spans of the resource, which are of some traces, and
-- spans of the scope, of some of these. With each is counted its share of both.
abbrev pub placed_after : {A : Type 0} → ViewResource A → ViewScope A → TraceSet → TraceSet
    → List (Span A) → List (Placed A)
placed_after resource scope of_resource of_scope [] = []
placed_after resource scope of_resource of_scope (span ∷ spans) =
    record {
      resource = resource;
      scope = scope;
      span = span;
      shared = shares_of resource scope of_resource of_scope (trace_of span);
    } ∷ placed_after resource scope (and_trace of_resource (trace_of span))
    (and_trace of_scope (trace_of span)) spans

-- those of a scope, after spans of its resource
abbrev pub spans_of_scope : {A : Type 0} → ViewResource A → TraceSet → ScopeSpans A
    → List (Placed A)
spans_of_scope resource before group = placed_after resource
    (record { scope = group.scope; schema_url = group.schema_url }) before no_trace
    group.spans.items

-- those of some scopes of a resource
abbrev pub spans_of_scopes : {A : Type 0} → ViewResource A → TraceSet → List (ScopeSpans A)
    → List (Placed A)
spans_of_scopes resource before [] = []
spans_of_scopes resource before (group ∷ groups) =
    spans_of_scope resource before group
    ++ spans_of_scopes resource (and_spans before group.spans.items) groups

-- those of a resource
abbrev pub spans_of_resource : {A : Type 0} → ResourceSpans A → List (Placed A)
spans_of_resource group = spans_of_scopes
    (record { resource = group.resource; schema_url = group.schema_url }) no_trace
    group.scope_spans.items

-- those of a request (trace_service.proto: ExportTraceServiceRequest)
abbrev pub spans_of_request : {A : Type 0} → Request A → List (Placed A)
spans_of_request request = flat_map spans_of_resource request.resource_spans.items

-- a span as it is kept
abbrev pub placed_of : {A : Type 0} → Arc (ViewSpan A) A → Placed A
placed_of kept = record {
  resource = arc_value (arc_value kept).resource;
  scope = arc_value (arc_value kept).scope;
  span = (arc_value kept).span;
  shared = (arc_value kept).shared;
}

-- the number of its trace
abbrev pub key_of : {A : Type 0} → Placed A → ℕ
key_of placed = trace_of placed.span

-- the spans of parts, part by part
abbrev pub spans_of_parts : {A : Type 0} → List (ℕ × List (Arc (ViewSpan A) A)) → List (Placed A)
spans_of_parts parts = flat_map (λ part. map placed_of part.1) parts

-- each span of a part is of the trace with the number of the part
abbrev pub IsOfOneTrace : {A : Type 0} → ℕ × List (Arc (ViewSpan A) A) → Type 0
IsOfOneTrace part = All (λ kept. key_of (placed_of kept) ≡ part.0) part.1

-- a span with the number of its trace
abbrev pub keyed : {A : Type 0} → Placed A → ℕ × Placed A
keyed placed = (key_of placed, placed)

-- spans as they are kept, each with a number
abbrev pub keyed_of : {A : Type 0} → List (ℕ × Arc (ViewSpan A) A) → List (ℕ × Placed A)
keyed_of entries = map (λ entry. (entry.0, placed_of entry.1)) entries
