-- The span of a request, as a client has it. (Semantic Conventions, HTTP spans, HTTP client)
use Rattle.std.specs.Prelude.{ℕ, Bool, ◌||◌, nat_le, nat_lt, if◌then◌else◌, List, [], ◌∷◌, ◌++◌}
use Rattle.std.specs.Prelude.{codes, decimal}
use Rattle.std.specs.Prelude.{map, Option, Some, None, Result, Ok, Err}
use Rattle.rand_core.specs.Stream.{Stream}
use Rattle.trace_api.specs.declared.provider.StartFault.{StartFault}
use Rattle.trace_api.specs.Endings.{Ending, ending_calls, int_pair, text_pair}
use Rattle.http_wire.specs.declared.fault.HttpFault.{HttpFault}
use Rattle.model_span.specs.Attributes.{Attribute}
use Rattle.model_span.specs.Spans.{Call, Context, client, set_attribute}
use Rattle.model_span.specs.Starts.{HeldSpan, StartRequest, Tracer, start_request}
use Rattle.otlp_http.specs.Address.{Address}
use Rattle.otlp_http.specs.Replies.{HttpReply}
use Rattle.traced_http.specs.Methods.{method_name, original_method, shown_method}
use Rattle.traced_http.specs.Queries.{redacted_path}
use Rattle.trace_context.specs.Carriers.{Field, outgoing}
use Rattle.http_client.specs.declared.fault.SendFault.{SendFault}
use Rattle.http_client.specs.declared.fault.SendFault.TheVariants.{NoReply, NotSent}
use Rattle.http_client.specs.Faults.{error_type}
use Rattle.traced_http.specs.Starts.{StartsIfAny, StartsNone, StartsSpan, text_pairs}

-- where a request goes, as one text, without the secrets of its query (RFC 3986, section 3;
-- url.full)
abbrev pub full_url : Address → List ℕ
full_url a = codes "http://" ++ a.host ++ codes ":" ++ decimal a.port ++ redacted_path a.path

-- the attributes that a span starts with
abbrev pub request_pairs : List (List ℕ) → List ℕ → Address → List Attribute
request_pairs known method a =
    text_pair (codes "http.request.method") (shown_method known method)
    ∷ text_pair (codes "server.address") a.host
    ∷ int_pair (codes "server.port") a.port
    ∷ text_pair (codes "url.full") (full_url a)
    ∷ text_pairs (codes "http.request.method_original") (original_method known method)

-- the calls that set them
abbrev pub request_calls : List (List ℕ) → List ℕ → Address → List Call
request_calls known method a = map set_attribute (request_pairs known method a)

-- the start that a request of this method asks for: the span is named by the method (Semantic
-- Conventions, HTTP spans, Name)
abbrev pub client_start : List (List ℕ) → List ℕ → Option Context → ℕ → StartRequest
client_start known method parent at = start_request parent (method_name known method) client at

-- the span has started for a request of this method to this address
abbrev pub HasStarted : Tracer → Stream → Stream → List (List ℕ) → Option Context → List ℕ
    → Address → ℕ → HeldSpan → Type 0
HasStarted tracer old new known parent method address at =
    StartsSpan tracer old new parent (method_name known method) client
    (request_pairs known method address) at

-- no span has started for a request of this method, and why
abbrev pub HasNotStarted : Tracer → Stream → Stream → List (List ℕ) → Option Context → List ℕ → ℕ
    → StartFault → Type 0
HasNotStarted tracer old new known parent method at =
    StartsNone tracer old new parent (method_name known method) client at

-- the span that has started for the request, or none, since it could not start
abbrev pub HasStartedOrNone : Tracer → Stream → Stream → List (List ℕ) → Option Context → List ℕ
    → Address → ℕ → Option HeldSpan → Type 0
HasStartedOrNone tracer old new known parent method address at =
    StartsIfAny tracer old new parent (method_name known method) client
    (request_pairs known method address) at

-- the fields that carry the context of a span, if there is one
abbrev pub carried_by : Option Context → List Field
carried_by None = []
carried_by (Some context) = outgoing context

-- the body could not be had (which word says so: profile)
abbrev pub failure_of_body : Result (List ℕ) HttpFault → Option (List ℕ)
failure_of_body (Ok body) = None
failure_of_body (Err fault) = Some (codes "no_body")

-- Whether a status says that the request failed: from 400 on, or below 100, in no class of RFC
-- 9110, section 15. (Semantic Conventions, HTTP spans, Status; below 100 and from 600 on: profile)
abbrev pub is_failure : ℕ → Bool
is_failure status = nat_le 400 status || nat_lt status 100

-- What is wrong with a reply, if something is: its status, or else that its body could not be had.
abbrev pub failure_of : HttpReply → Option (List ℕ)
failure_of reply =
    if is_failure reply.status then Some (decimal reply.status) else failure_of_body reply.body

-- what came of a request
abbrev pub ending_of : Result HttpReply SendFault → Ending
ending_of (Ok reply) = record { status = Some reply.status; error_type = failure_of reply }
ending_of (Err fault) = record { status = None; error_type = Some (error_type fault) }

-- the version of HTTP that the connection of a request spoke, if there was one
abbrev pub version_of : Result HttpReply SendFault → Option (List ℕ)
version_of (Ok reply) = Some (codes "1.1")
version_of (Err NotSent) = Some (codes "1.1")
version_of (Err (NoReply fault)) = Some (codes "1.1")
version_of (Err _) = None

-- the calls that say so (network.protocol.version)
abbrev pub version_calls : Result HttpReply SendFault → List Call
version_calls result =
    map set_attribute (text_pairs (codes "network.protocol.version") (version_of result))

-- what is said on the span at its end: this, and what came of the request
abbrev pub closing_calls : Result HttpReply SendFault → List Call
closing_calls result = version_calls result ++ ending_calls (ending_of result)
