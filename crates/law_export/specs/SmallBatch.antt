-- A batch of one span that goes to a collector on the same machine, byte by byte.
use Rattle.std.specs.Prelude.{ℕ, List, [], ◌∷◌, ◌++◌, codes}
use Rattle.model_span.specs.Spans.{SpanData}
use Rattle.http_wire.specs.declared.limits.HeadLimits.{HeadLimits}
use Rattle.otlp_http.specs.Address.{Address}
use Rattle.worked_trace.specs.Bytes.{plain_body}
use Rattle.worked_trace.specs.Samples.{span_a}

-- the span alone
abbrev pub batch : List SpanData
batch = span_a [] ∷ []

-- where a collector listens by default (OTLP Specification, OTLP/HTTP Default Port)
abbrev pub local : Address
local =
    record { host = codes "127.0.0.1"; port = 4318; path = codes "/v1/traces"; fields = [] }

-- the limits of a collector that allows bodies of 70 bytes
abbrev pub small : HeadLimits
small = record { head = 127; fields = 4; body = 70 }

-- the head of the request (RFC 9112, sections 3 and 5), and the request
abbrev pub head_bytes : List ℕ
head_bytes =
    codes "POST /v1/traces HTTP/1.1\r\nHost: 127.0.0.1:4318\r\n" ++
    codes "Content-Type: application/x-protobuf\r\nContent-Length: 70\r\n" ++
    codes "Connection: close\r\n\r\n"

abbrev pub request_bytes : List ℕ
request_bytes = head_bytes ++ plain_body

-- the reply that the spans were taken (RFC 9112, sections 4 and 5)
abbrev pub reply_bytes : List ℕ
reply_bytes =
    codes "HTTP/1.1 200 OK\r\nContent-Type: application/x-protobuf\r\n" ++
    codes "Content-Length: 0\r\nConnection: close\r\n\r\n"

-- the reply that memory was refused
abbrev pub unavailable_bytes : List ℕ
unavailable_bytes =
    codes "HTTP/1.1 503 Service Unavailable\r\nContent-Type: application/x-protobuf\r\n" ++
    codes "Content-Length: 0\r\nConnection: close\r\nRetry-After: 1\r\n\r\n"
