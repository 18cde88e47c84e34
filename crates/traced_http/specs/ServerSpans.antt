-- How the span of a request starts. (Semantic Conventions, HTTP spans, HTTP server; Trace API, Span
-- Creation)
use Rattle.std.specs.Prelude.{ℕ, List, map, Option}
use Rattle.http.specs.declared.request.Request.{Request}
use Rattle.http.specs.Request.{head_of}
use Rattle.rand_core.specs.Stream.{Stream}
use Rattle.model_span.specs.Spans.{Call, server, set_attribute}
use Rattle.model_span.specs.Starts.{HeldSpan, StartRequest, Tracer, start_request}
use Rattle.trace_api.specs.declared.provider.StartFault.{StartFault}
use Rattle.traced_http.specs.Attributes.{Server, request_pairs}
use Rattle.traced_http.specs.Carried.{carried}
use Rattle.traced_http.specs.Methods.{span_name}
use Rattle.traced_http.specs.Starts.{StartsIfAny, StartsNone, StartsSpan}

-- the start that a request asks for: a child of what it carries
abbrev pub server_start : Option (List ℕ) → Server → Request (List ℕ) → ℕ → StartRequest
server_start route host request at =
    start_request (carried (head_of request).headers)
    (span_name host.methods (head_of request).method route) server at

-- the calls that a span starts with
abbrev pub request_calls : Option (List ℕ) → Server → Request (List ℕ) → List Call
request_calls route host request = map set_attribute (request_pairs (head_of request) route host)

-- the span has started for the request
abbrev pub HasStarted : Tracer → Stream → Stream → Option (List ℕ) → Server → Request (List ℕ) → ℕ
    → HeldSpan → Type 0
HasStarted tracer old new route host request at =
    StartsSpan tracer old new (carried (head_of request).headers)
    (span_name host.methods (head_of request).method route) server
    (request_pairs (head_of request) route host) at

-- no span has started for the request, and why
abbrev pub HasNotStarted : Tracer → Stream → Stream → Option (List ℕ) → Server → Request (List ℕ)
    → ℕ → StartFault → Type 0
HasNotStarted tracer old new route host request at =
    StartsNone tracer old new (carried (head_of request).headers)
    (span_name host.methods (head_of request).method route) server at

-- the span that has started for the request, or none, since it could not start
abbrev pub HasStartedOrNone : Tracer → Stream → Stream → Option (List ℕ) → Server
    → Request (List ℕ) → ℕ → Option HeldSpan → Type 0
HasStartedOrNone tracer old new route host request at =
    StartsIfAny tracer old new (carried (head_of request).headers)
    (span_name host.methods (head_of request).method route) server
    (request_pairs (head_of request) route host) at
