-- What is proved of the images of spans. The functions of `src/lib.rt` carry these statements.
use Rattle.std.specs.Prelude.{◌≡◌, List}
use Rattle.model_message.specs.Messages.{triples}
use Rattle.model_span.specs.Spans.{SpanData}
use Rattle.model_export.specs.Export.{ResourceGroup, groups, request_message, triples_of}
use Rattle.model_export.specs.Export.{grouped_triples}

-- The request that carries groups has their spans, each with the resource and the scope of its
-- group. (opentelemetry-proto, trace.proto: ResourceSpans, ScopeSpans)
abbrev pub SpansAreCarried : Type 0
SpansAreCarried = (gs : List ResourceGroup) → triples (request_message gs) ≡ triples_of gs

-- The request that carries the groups of spans has these, group by group, each with its resource
-- and scope. (opentelemetry-proto, trace.proto: ResourceSpans, ScopeSpans)
abbrev pub GroupsAreCarried : Type 0
GroupsAreCarried =
    (spans : List SpanData) → triples (request_message (groups spans)) ≡ grouped_triples spans
