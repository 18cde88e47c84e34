-- What a request is answered that isn't taken: a status, and why. (RFC 9110, section 15; RFC 6585,
-- section 5; OTLP Specification, OTLP/HTTP Response; google.rpc.Status; the words: profile)
use Rattle.std.specs.Prelude.{ℕ, List, [], ◌∷◌, ◌++◌, length, codes}
use Rattle.http1.specs.Fields.{Header}
use Rattle.http_server.specs.Response.{IsResponse}
use Rattle.http_server.specs.declared.response.Response.{Response}
use Rattle.otlp_receiver.specs.Formats.{format_fields}
use Rattle.otlp_receiver.specs.declared.reply.denial.Denial.{Denial}
use Rattle.otlp_receiver.specs.declared.reply.denial.Denial.TheVariants as denials
use Rattle.otlp_receiver.specs.declared.reply.format.Format.{Format}
use Rattle.otlp_receiver.specs.declared.reply.format.Format.TheVariants as formats

-- the status
abbrev pub code_of : Denial → ℕ
code_of denials.BadRequest = 400
code_of denials.BadBody = 400
code_of denials.BadCoding = 400
code_of denials.BadIds = 400
code_of denials.Host = 403
code_of denials.NoPath = 404
code_of denials.NoMetrics = 404
code_of denials.NoLogs = 404
code_of denials.ExportMethod = 405
code_of denials.PageMethod = 405
code_of denials.BodyTooLarge = 413
code_of denials.TracesTooLarge = 413
code_of denials.ReadTooLarge = 413
code_of denials.UriTooLong = 414
code_of denials.MediaType = 415
code_of denials.FieldsTooLarge = 431
code_of denials.UnknownCoding = 501
code_of denials.KeepFailed = 503
code_of denials.OutOfMemory = 503
code_of denials.NoRoom = 503
code_of denials.UnknownVersion = 505

-- what an answer says to a client, in words
abbrev pub message_of : Denial → List ℕ
message_of denials.BadRequest = codes "the request can't be read as HTTP/1.1"
message_of denials.BadBody =
    codes "the body can't be read as an ExportTraceServiceRequest of its type"
message_of denials.BadCoding =
    codes "the body can't be read as a gzip file, as Content-Encoding says"
message_of denials.BadIds =
    codes "a span's trace id hasn't 16 bytes, or its span id hasn't 8: collectors refuse it"
message_of denials.Host =
    codes "this host isn't one of the service's: start it with --host NAME"
message_of denials.NoPath = codes "no such path: post traces to /v1/traces"
message_of denials.NoMetrics =
    codes "only traces are taken here: set OTEL_METRICS_EXPORTER=none"
message_of denials.NoLogs = codes "only traces are taken here: set OTEL_LOGS_EXPORTER=none"
message_of denials.ExportMethod = codes "post traces with the method POST"
message_of denials.PageMethod =
    codes "post traces to /v1/traces: this path is read with the method GET"
message_of denials.BodyTooLarge =
    codes "the body is too large: export smaller batches, or raise --max-body or --pending-mb"
message_of denials.TracesTooLarge =
    codes "more than is kept: export smaller batches, or raise --keep-spans or --keep-mb"
message_of denials.ReadTooLarge =
    codes "reading it takes more than may be pending: export smaller batches, or raise "
    ++ codes "--pending-mb"
message_of denials.UriTooLong = codes "the target of the request is too long"
message_of denials.MediaType =
    codes "set the exporter's protocol to http/protobuf or http/json, "
    ++ codes "its compression to gzip or none"
message_of denials.FieldsTooLarge = codes "the fields of the request are too large"
message_of denials.UnknownCoding = codes "a transfer coding other than chunked isn't known"
message_of denials.KeepFailed = codes "traces can't be kept: the service's disk has failed"
message_of denials.OutOfMemory = codes "out of memory: try again in a second"
message_of denials.NoRoom = codes "too much is pending: try again in a second"
message_of denials.UnknownVersion =
    codes "gRPC isn't taken: set OTEL_EXPORTER_OTLP_PROTOCOL=http/protobuf; requests come "
    ++ codes "by HTTP/1.1"

-- 405 says which methods are allowed (RFC 9110, section 15.5.6)
abbrev pub allow_fields : Denial → List Header
allow_fields denials.ExportMethod = (codes "allow", codes "OPTIONS, POST") ∷ []
allow_fields denials.PageMethod = (codes "allow", codes "GET, HEAD") ∷ []
allow_fields _ = []

-- 503 says after how many seconds to try again, where that may help (RFC 9110, section 10.2.3)
abbrev pub wait_fields : Denial → List Header
wait_fields denials.OutOfMemory = (codes "retry-after", codes "1") ∷ []
wait_fields denials.NoRoom = (codes "retry-after", codes "1") ∷ []
wait_fields _ = []

abbrev pub denial_fields : Denial → Format → List Header
denial_fields denial format = format_fields format ++ (allow_fields denial ++ wait_fields denial)

-- a message of google.rpc.Status whose `message`, the field 2, is this text of less than 128 bytes
-- (Protocol Buffers, Encoding)
abbrev pub status_message : List ℕ → List ℕ
status_message text = 18 ∷ length text ∷ text

-- the same in JSON; the text has nothing that JSON would escape (Protocol Buffers, ProtoJSON)
abbrev pub status_json : List ℕ → List ℕ
status_json text = codes "{\"message\":\"" ++ (text ++ codes "\"}")

-- the message as it is written in a format: a line where it isn't for an exporter
abbrev pub denial_body : List ℕ → Format → List ℕ
denial_body text formats.Protobuf = status_message text
denial_body text formats.Json = status_json text
denial_body text _ = text ++ 10 ∷ []

-- the response refuses a request so
abbrev pub IsDenial : Denial → Format → Response → Type 0
IsDenial denial format response =
    IsResponse (code_of denial) (denial_fields denial format)
    (denial_body (message_of denial) format) response

-- an ExportTraceServiceResponse with no fields, as it is written in a format (OTLP Specification,
-- Full Success; Protocol Buffers, ProtoJSON)
abbrev pub success_body : Format → List ℕ
success_body formats.Json = codes "{}"
success_body _ = []

-- the response says that all spans of a request were taken, in the format of the request (OTLP
-- Specification, OTLP/HTTP Response)
abbrev pub IsSuccess : Format → Response → Type 0
IsSuccess format response =
    IsResponse 200 (format_fields format) (success_body format) response

-- the response says which methods the path of exports has, and nothing else (RFC 9110, section
-- 9.3.7)
abbrev pub IsOptions : Response → Type 0
IsOptions response = IsResponse 204 (allow_fields denials.ExportMethod) [] response
