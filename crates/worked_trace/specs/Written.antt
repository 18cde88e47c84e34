-- What is written: bodies, and the messages in them.
use Rattle.std.specs.Prelude.{◌≡◌, ℕ, List}
use Rattle.model_message.specs.Reading.{done}
use Rattle.model_message.specs.Canon.{canon, septets_of, row_bytes, value_fields}
use Rattle.model_message.specs.AnyValue.{AnyValue}
use Rattle.model_message.specs.Tables
use Rattle.model_message.specs.Tables.{Message, ◌▸◌}
use Rattle.model_message.specs.Messages
use Rattle.model_span.specs.Attributes.{Value, Attribute}
use Rattle.model_span.specs.Spans.{default_limits, Call, SpanLimits, SpanData}
use Rattle.model_export.specs.Export.{groups, request_message, grouped_triples, span_message}
use Rattle.model_export.specs.Export.{value_message}
use Rattle.worked_trace.specs.Hex.{hex}
use Rattle.worked_trace.specs.Samples.{ended_span_of, no_resource, scope_s, start_a}
use Rattle.worked_trace.specs.Read.{read}

-- the request that carries some spans
unfoldable pub request_with : List SpanData → Message Tables.request
unfolding groups request_message
request_with spans = request_message (groups spans)

-- the body of the request that carries some spans
unfoldable pub body : List SpanData → List ℕ
unfolding request_with canon septets_of
body spans = canon Tables.request (request_with spans)

-- span a, after some calls under these limits, as it is in a body
unfoldable pub limited_bytes : SpanLimits → List Call → List ℕ
unfolding ended_span_of canon septets_of hex
limited_bytes limits calls =
    canon Tables.span (span_message (ended_span_of no_resource scope_s limits start_a calls).span)

-- likewise, under the default limits
unfoldable pub span_bytes : List Call → List ℕ
unfolding limited_bytes
span_bytes calls = limited_bytes default_limits calls

unfoldable pub pair_bytes : Attribute → List ℕ
unfolding canon septets_of
pair_bytes p = canon Tables.key_value (p.key ▸ value_message p.value ▸ tt)

unfoldable pub value_bytes : Value → List ℕ
unfolding row_bytes value_fields septets_of
value_bytes v = row_bytes (value_fields (value_message v))

-- likewise, of a value of any of the protocol's kinds
unfoldable pub any_value_bytes : AnyValue → List ℕ
unfolding row_bytes value_fields septets_of
any_value_bytes v = row_bytes (value_fields v)

unfoldable pub response_bytes : Message Tables.response → List ℕ
unfolding canon septets_of
response_bytes r = canon Tables.response r

-- The body of the spans means the request that carries them, and its spans are theirs, group by
-- group.
pub record IsReadBack (spans : List SpanData) : Type 0 where
  pub request : read (body spans) ≡ done (request_with spans)
  pub triples : Messages.triples (request_with spans) ≡ grouped_triples spans
