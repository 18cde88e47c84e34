-- A start of a span with all that it begins with. (Trace API, Span Creation)
use Rattle.std.specs.Prelude.{◌≡◌, ℕ, List, ◌++◌, map, Option, Some, None, Result, Ok, Err}
use Rattle.model_span.specs.Attributes.{Attribute}
use Rattle.model_span.specs.Spans.{Call, Context, set_attribute, add_link}
use Rattle.model_span.specs.Starts.{HeldSpan, StartRequest, StartedSpan, held_span, start_request}
use Rattle.otlp_ids.specs.SpanContext.{context_view, parent_view}
use Rattle.otlp_span.specs.Parts.{kind_view}
use Rattle.trace_api.specs.Starts.{StartTakesMemory}
use Rattle.trace_api.specs.declared.provider.StartFault.{StartFault}
use Rattle.trace_api.specs.declared.provider.StartFault.TheVariants.{NoRandomness, OutOfMemory}
use Rattle.trace_api.specs.Lent.{lent_pairs}
use Rattle.trace_api.specs.declared.request.LinkRef.{LinkRef}
use Rattle.trace_api.specs.declared.request.SpanRequest.{SpanRequest}

-- a link, as a program asks for it (Trace API, Link)
pub record AskedLink : Type 0 where
  pub context : Context
  pub attributes : List Attribute

-- a link that is lent: where it leads, and its attributes
abbrev pub lent_link : {A : Type 0} → LinkRef A → AskedLink
lent_link l = record {
  context = context_view l.context.now;
  attributes = lent_pairs l.attributes.now;
}

-- links that are lent, in their order
abbrev pub lent_links : {A : Type 0} → List (LinkRef A) → List AskedLink
lent_links links = map lent_link links

-- the start that is asked for, at this moment
abbrev pub request_of : {A : Type 0} → SpanRequest A → ℕ → StartRequest
request_of r at = start_request (parent_view r.parent) r.name.now (kind_view r.kind) at

-- the calls that set attributes
abbrev pub set_calls : List Attribute → List Call
set_calls pairs = map set_attribute pairs

-- the calls that add links
abbrev pub link_calls : List AskedLink → List Call
link_calls links = map (λ l. add_link l.context l.attributes) links

-- The calls that it asks for, after the start: the attributes, then the links, each in their order.
abbrev pub calls_of : {A : Type 0} → SpanRequest A → List Call
calls_of r = set_calls (lent_pairs r.attributes.now) ++ link_calls (lent_links r.links.now)

-- What such a start answers: the span that starts, after these calls, or no randomness exactly
-- where there is none. Memory is refused only where starting takes some. (Trace SDK, SDK Span
-- creation)
abbrev pub StartsWith : Option StartedSpan → List Call → Result HeldSpan StartFault → Type 0
StartsWith there calls (Ok span) =
    (s : StartedSpan) × (there ≡ Some s) × (span ≡ held_span s calls)
StartsWith there calls (Err NoRandomness) = there ≡ None
StartsWith there calls (Err OutOfMemory) = (s : StartedSpan) × (there ≡ Some s) × StartTakesMemory s
