-- The text of the request that carries a body to a collector (RFC 9112, sections 2.1, 3 and 5).
use Rattle.std.specs.Prelude.{ℕ, List, [], ◌++◌, length, codes, decimal}
use Rattle.http_wire.specs.Lines.{line}
use Rattle.otlp_http.specs.Address.{Address}
use Rattle.otlp_http.specs.Fields.{field_lines}
use Rattle.otlp_http.specs.declared.request.Connection.{Connection}
use Rattle.otlp_http.specs.declared.request.Connection.TheVariants.{Close, KeepAlive}
use Rattle.otlp_http.specs.declared.request.Coding.{Coding}
use Rattle.otlp_http.specs.declared.request.Coding.TheVariants.{Identity, Gzip}

-- the request line, and the fields that each request has; the body has this number of bytes
abbrev pub first_lines : Address → ℕ → List ℕ
first_lines address size =
    line (codes "POST " ++ address.path ++ codes " HTTP/1.1")
    ++ line (codes "Host: " ++ address.host ++ codes ":" ++ decimal address.port)
    ++ line (codes "Content-Type: application/x-protobuf")
    ++ line (codes "Content-Length: " ++ decimal size)

-- the head of a request whose connection is closed after the reply (RFC 9112, section 9.6)
unfoldable pub request_head : Address → ℕ → List ℕ
request_head address size =
    first_lines address size ++ line (codes "Connection: close") ++ field_lines address.fields
    ++ line []

-- the head of a request whose connection is kept (RFC 9112, section 9.3)
unfoldable pub kept_head : Address → ℕ → List ℕ
kept_head address size =
    first_lines address size ++ line (codes "Connection: keep-alive") ++ field_lines address.fields
    ++ line []

-- the line of the field by which a request asks this of its connection
abbrev pub connection_line : Connection → List ℕ
connection_line Close = line (codes "Connection: close")
connection_line KeepAlive = line (codes "Connection: keep-alive")

-- the head of a request that asks this of its connection
abbrev pub head_for : Connection → Address → ℕ → List ℕ
head_for Close address size = request_head address size
head_for KeepAlive address size = kept_head address size

-- the head, and then the body as it is
abbrev pub request_text : Address → List ℕ → List ℕ
request_text address body = request_head address (length body) ++ body

-- the same for a request that asks this of its connection
abbrev pub text_for : Connection → Address → List ℕ → List ℕ
text_for connection address body = head_for connection address (length body) ++ body

-- the line of the field that says the body's coding, and none where the body is as it is (RFC 9110,
-- section 8.4)
abbrev pub coding_line : Coding → List ℕ
coding_line Identity = []
coding_line Gzip = line (codes "Content-Encoding: gzip")

-- the head of a request whose body is a gzip file (RFC 9110, section 8.4.1.3)
unfoldable pub gzip_head : Connection → Address → ℕ → List ℕ
gzip_head connection address size =
    first_lines address size ++ line (codes "Content-Encoding: gzip")
    ++ connection_line connection ++ field_lines address.fields
    ++ line []

-- the head of a request with a body in this coding
abbrev pub head_in : Coding → Connection → Address → ℕ → List ℕ
head_in Identity connection address size = head_for connection address size
head_in Gzip connection address size = gzip_head connection address size

-- the same head, and then the body in this coding
abbrev pub text_in : Coding → Connection → Address → List ℕ → List ℕ
text_in coding connection address body =
    head_in coding connection address (length body) ++ body
