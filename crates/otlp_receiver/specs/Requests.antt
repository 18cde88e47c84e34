-- What the head of a request says of its answer. (OTLP Specification, OTLP/HTTP Request and
-- OTLP/HTTP Response; which requests are answered as exports are: profile)
use Rattle.std.specs.Prelude.{ℕ, Bool, true, false, ◌&&◌, ◌||◌, ◌==◌, bytes_eq, if◌then◌else◌}
use Rattle.std.specs.Prelude.{List, [], ◌∷◌, codes, take, drop, Option, Some, None}
use Rattle.http.specs.Request.{head_of}
use Rattle.http.specs.declared.request.Parts.{Parts}
use Rattle.http.specs.declared.request.Request.{Request as HttpRequest}
use Rattle.http_header.specs.FieldValue.{FieldValue}
use Rattle.http_header.specs.HeaderMap.{get_all}
use Rattle.http_uri.specs.Uri.{uri_path}
use Rattle.otlp_receiver.specs.Hosts.{is_same_word}
use Rattle.otlp_receiver.specs.declared.reply.denial.Denial.{Denial}
use Rattle.otlp_receiver.specs.declared.reply.denial.Denial.TheVariants as denials
use Rattle.otlp_receiver.specs.declared.reply.format.Format.{Format}
use Rattle.otlp_receiver.specs.declared.reply.format.Format.TheVariants as formats

-- the paths to which OTLP's exporters post
abbrev pub is_export_path : List ℕ → Bool
is_export_path path =
    bytes_eq path (codes "/v1/traces")
    || (bytes_eq path (codes "/v1/metrics") || bytes_eq path (codes "/v1/logs"))

-- why a request is refused for the path to which another signal is posted, metrics or logs
unfoldable pub other_signal : List ℕ → Option Denial
other_signal path =
    if bytes_eq path (codes "/v1/metrics") then Some denials.NoMetrics
    else if bytes_eq path (codes "/v1/logs") then Some denials.NoLogs
    else None

-- a request for the path to which traces are posted
abbrev pub is_export_of_traces : HttpRequest (List ℕ) → Bool
is_export_of_traces request = bytes_eq (uri_path (head_of request).uri) (codes "/v1/traces")

-- a request that asks which methods there are (RFC 9110, section 9.3.7)
abbrev pub asks_for_methods : HttpRequest (List ℕ) → Bool
asks_for_methods request = bytes_eq (head_of request).method (codes "OPTIONS")

-- an export: a post, or a request for a path of exports
abbrev pub is_export : Parts → Bool
is_export head = is_export_path (uri_path head.uri) || bytes_eq head.method (codes "POST")

-- a type ends here: at its parameters (59 is `;`), or before a space (32) or a tab (9) (RFC 9110,
-- section 8.3.1)
abbrev pub ends_type : List ℕ → Bool
ends_type [] = true
ends_type (byte ∷ rest) = (byte == 59) || ((byte == 32) || (byte == 9))

-- a type is that of JSON, in any case of letters
abbrev pub is_json_type : List ℕ → Bool
is_json_type kind =
    is_same_word (take 16 kind) (codes "application/json") && ends_type (drop 16 kind)

-- the first Content-Type is so (profile)
abbrev pub is_json : List FieldValue → Bool
is_json [] = false
is_json (value ∷ values) = is_json_type value.bytes

-- In what a request is refused: an export as its own type is, and other requests by a text. A
-- request whose head isn't known is taken for an export.
abbrev pub denial_format : Option Parts → Format
denial_format None = formats.Protobuf
denial_format (Some head) =
    if is_export head
    then (if is_json (get_all head.headers (codes "content-type"))
    then formats.Json
    else formats.Protobuf)
    else formats.Text
