-- What a server's span says of its request, and of the response. (Semantic Conventions, HTTP spans,
-- HTTP server)
use Rattle.std.specs.Prelude.{ℕ, ◌&&◌, nat_le, nat_lt, Bool, if◌then◌else◌, List, [], ◌∷◌, ◌++◌}
use Rattle.std.specs.Prelude.{codes, Option, Some, None, option_map}
use Rattle.std.specs.Option.{option_and_then}
use Rattle.std.specs.Str.{is_utf8}
use Rattle.http_header.specs.FieldValue.{FieldValue}
use Rattle.http_header.specs.HeaderMap.{Entries, get}
use Rattle.http_uri.specs.Uri.{uri_path, uri_query}
use Rattle.http.specs.declared.request.Parts.{Parts}
use Rattle.http.specs.declared.version.Version.{Version}
use Rattle.http.specs.declared.version.Http.{Http}
use Rattle.http.specs.declared.version.Http.TheVariants.{Http10}
use Rattle.http.specs.StatusCode.{code_digits}
use Rattle.model_span.specs.Attributes.{Attribute}
use Rattle.trace_api.specs.Endings.{Ending, int_pair, text_pair}
use Rattle.traced_http.specs.declared.server.start.ServerName.{ServerName}
use Rattle.traced_http.specs.Methods.{original_method, shown_method}
use Rattle.traced_http.specs.Queries.{redacted_query}
use Rattle.traced_http.specs.Starts.{text_pairs}

-- what a server is reached by, and the methods that its spans are named by
pub record Server : Type 0 where
  pub address : List ℕ
  pub port : ℕ
  pub methods : List (List ℕ)

abbrev pub server_view : ServerName → List (List ℕ) → Server
server_view s known = record { address = s.address.now; port = s.port; methods = known }

-- 1.0, or else 1.1: a server of HTTP/1 answers these
abbrev pub text_by : Http → List ℕ
text_by Http10 = codes "1.0"
text_by _ = codes "1.1"

-- the version of HTTP, without its name (network.protocol.version)
abbrev pub version_text : Version → List ℕ
version_text v = text_by v.0

-- the bytes as a text, if they are one
unfoldable pub text_of : List ℕ → Option (List ℕ)
text_of bytes = if is_utf8 bytes then Some bytes else None

-- what the client calls itself, if it says so in text (user_agent.original)
abbrev pub user_agent : Entries FieldValue → Option (List ℕ)
user_agent headers = option_and_then (λ v. text_of v.bytes) (get headers (codes "user-agent"))

-- the query of a request's target without its secrets, if it has one (url.query)
abbrev pub shown_query : Parts → Option (List ℕ)
shown_query head = option_map redacted_query (uri_query head.uri)

-- the attributes that each request has
abbrev pub own_pairs : Parts → Server → List Attribute
own_pairs head server =
    text_pair (codes "http.request.method") (shown_method server.methods head.method)
    ∷ text_pair (codes "url.path") (uri_path head.uri)
    ∷ text_pair (codes "url.scheme") (codes "http")
    ∷ text_pair (codes "server.address") server.address
    ∷ int_pair (codes "server.port") server.port
    ∷ text_pair (codes "network.protocol.version") (version_text head.version) ∷ []

-- the attributes that a span starts with: these, and those that are there
abbrev pub request_pairs : Parts → Option (List ℕ) → Server → List Attribute
request_pairs head route server =
    own_pairs head server
    ++ text_pairs (codes "url.query") (shown_query head)
    ++ text_pairs (codes "http.route") route
    ++ text_pairs (codes "http.request.method_original")
    (original_method server.methods head.method)
    ++ text_pairs (codes "user_agent.original") (user_agent head.headers)

-- whether a status says that the server failed (RFC 9110, section 15.6)
abbrev pub is_server_error : ℕ → Bool
is_server_error status = nat_le 500 status && nat_lt status 600

-- what came of a request that is answered by this status (Semantic Conventions, HTTP spans, Status)
abbrev pub ending_of : ℕ → Ending
ending_of status = record {
  status = Some status;
  error_type = if is_server_error status then Some (code_digits status) else None;
}
