-- Which requests a client refuses. (RFC 9110, sections 5.1, 5.5, 5.6.2 and 9)
use Rattle.std.specs.Prelude.{ℕ, Bool, not, ◌&&◌, nat_lt, if◌then◌else◌, List, [], ◌∷◌, length}
use Rattle.std.specs.Prelude.{codes, bytes_eq, Option, Some, None}
use Rattle.std.specs.List.{list_all, list_any}
use Rattle.httparse.specs.Grammar.{is_token, is_value_byte}
use Rattle.trace_context.specs.Carriers.{Field, is_same_name}
use Rattle.http_client.specs.declared.fault.SendFault.{SendFault}
use Rattle.http_client.specs.declared.fault.SendFault.TheVariants as faults
use Rattle.http_client.specs.Requests.{Request}

-- the names of the fields that the client sets itself, and of those that say otherwise how long a
-- body is
abbrev pub own_names : List (List ℕ)
own_names =
    codes "host" ∷ codes "connection" ∷ codes "content-length" ∷ codes "transfer-encoding"
    ∷ codes "traceparent" ∷ codes "tracestate" ∷ []

-- one of these, in letters of either case (RFC 9110, section 5.1)
abbrev pub is_own : List ℕ → Bool
is_own name = list_any (is_same_name name) own_names

-- the method is a token, and not CONNECT, whose target has another form (RFC 9110, section 9.1; RFC
-- 9112, section 3.2.3)
abbrev pub is_method : List ℕ → Bool
is_method method = is_token method && not (bytes_eq method (codes "CONNECT"))

-- The name is a token, and not one of the client's. The value has no control byte but the tab. (RFC
-- 9110, sections 5.5 and 5.6.2)
abbrev pub is_field : Field → Bool
is_field f = is_token f.0 && not (is_own f.0) && list_all is_value_byte f.1

-- a TRACE has no body (RFC 9110, section 9.3.8)
abbrev pub is_body : List ℕ → List ℕ → Bool
is_body method body = not (bytes_eq method (codes "TRACE") && nat_lt 0 (length body))

-- why a request isn't sent, if it isn't: the first of these that holds
unfoldable pub refusal : Request → Option SendFault
refusal r =
    if not (is_method r.method) then Some faults.BadMethod
    else if not (list_all is_field r.fields) then Some faults.BadField
    else if not (is_body r.method r.body) then Some faults.BadBody
    else None
