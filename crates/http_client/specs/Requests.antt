-- A request, and its text. (RFC 9110, sections 6, 8.6 and 9; RFC 9112, sections 2.1, 3 and 5)
use Rattle.std.specs.Prelude.{ℕ, Bool, true, false, ◌||◌, nat_lt, if◌then◌else◌}
use Rattle.std.specs.Prelude.{List, [], ◌++◌, codes, decimal, flat_map, length, map, bytes_eq}
use Rattle.std.specs.Borrow.{Bor}
use Rattle.http_wire.specs.Lines.{line}
use Rattle.otlp_http.specs.Address.{Address}
use Rattle.otlp_http.specs.Request.{connection_line}
use Rattle.otlp_http.specs.declared.request.Connection.{Connection}
use Rattle.otlp_http.specs.declared.request.Connection.TheVariants.{Close}
use Rattle.trace_context.specs.Carriers.{Field}
use Rattle.http_client.specs.declared.request.ClientRequest.{ClientRequest}

-- a request: its method, its fields beside those that the client sets, and its body
pub record Request : Type 0 where
  pub method : List ℕ
  pub fields : List Field
  pub body : List ℕ

-- fields that are lent
abbrev pub lent_fields : List (Bor (List ℕ) × Bor (List ℕ)) → List Field
lent_fields fields = map (λ f. (f.0.now, f.1.now)) fields

-- a request that is lent
abbrev pub request_view : ClientRequest → Request
request_view r = record {
  method = r.method.now;
  fields = lent_fields r.fields.now;
  body = r.body.now;
}

-- a GET, without fields of its own and without a body
abbrev pub get_request : Request
get_request = record { method = codes "GET"; fields = []; body = [] }

-- the line of a field
abbrev pub field_line : Field → List ℕ
field_line f = line (f.0 ++ codes ": " ++ f.1)

-- the request line
abbrev pub request_line : List ℕ → List ℕ → List ℕ
request_line method path = line (method ++ codes " " ++ path ++ codes " HTTP/1.1")

-- the field that says for which host the request is
abbrev pub host_line : List ℕ → List ℕ → List ℕ
host_line host port = line (codes "Host: " ++ host ++ codes ":" ++ port)

-- both
abbrev pub first_lines : List ℕ → Address → List ℕ
first_lines method address =
    request_line method address.path ++ host_line address.host (decimal address.port)

-- whether a request of this method is expected to have a body, so that its length is said also
-- where it is empty (RFC 9110, section 8.6; RFC 5789, section 2)
unfoldable pub expects_body : List ℕ → Bool
expects_body method =
    if bytes_eq method (codes "PATCH") then true
    else if bytes_eq method (codes "POST") then true
    else if bytes_eq method (codes "PUT") then true
    else false

-- whether a request says how long its body is
abbrev pub says_length : List ℕ → List ℕ → Bool
says_length method body = nat_lt 0 (length body) || expects_body method

-- the line that says it, if there is one
abbrev pub length_lines : List ℕ → List ℕ → List ℕ
length_lines method body =
    if says_length method body then line (codes "Content-Length: " ++ decimal (length body)) else []

-- The head of a request to this address, which asks this of its connection, with the fields that
-- carry a context and then its own. (RFC 9112, sections 9.3 and 9.6; the order of the fields:
-- profile)
unfoldable pub request_head : Connection → Address → List Field → Request → List ℕ
request_head connection address carried r =
    first_lines r.method address ++ flat_map field_line carried ++ flat_map field_line r.fields
    ++ length_lines r.method r.body ++ connection_line connection ++ line []

-- the head, and then the body as it is
abbrev pub text_for : Connection → Address → List Field → Request → List ℕ
text_for connection address carried r = request_head connection address carried r ++ r.body

-- the same of a request whose connection is closed after the reply
abbrev pub request_text : Address → List Field → Request → List ℕ
request_text address carried r = text_for Close address carried r
