-- The text of a collector's reply (RFC 9112, sections 2.1 and 4; which fields it has: profile).
use Rattle.std.specs.Prelude.{ℕ, List, [], ◌++◌, codes, decimal, Option, Some, None}
use Rattle.http_wire.specs.Lines.{line}
use Rattle.otlp_serve.specs.declared.reply.PostReply.{PostReply}
use Rattle.otlp_serve.specs.declared.status.ReplyStatus.{ReplyStatus}
use Rattle.otlp_serve.specs.declared.status.ReplyStatus.TheVariants as statuses

-- the number of a status (RFC 9110, section 15; RFC 6585, sections 4 and 5)
abbrev pub code_of : ReplyStatus → ℕ
code_of statuses.Ok = 200
code_of statuses.BadRequest = 400
code_of statuses.NotFound = 404
code_of statuses.MethodNotAllowed = 405
code_of statuses.ContentTooLarge = 413
code_of statuses.UnsupportedMediaType = 415
code_of statuses.TooManyRequests = 429
code_of statuses.RequestHeaderFieldsTooLarge = 431
code_of statuses.BadGateway = 502
code_of statuses.ServiceUnavailable = 503
code_of statuses.GatewayTimeout = 504

-- its reason phrase (the same)
abbrev pub reason_of : ReplyStatus → List ℕ
reason_of statuses.Ok = codes "OK"
reason_of statuses.BadRequest = codes "Bad Request"
reason_of statuses.NotFound = codes "Not Found"
reason_of statuses.MethodNotAllowed = codes "Method Not Allowed"
reason_of statuses.ContentTooLarge = codes "Content Too Large"
reason_of statuses.UnsupportedMediaType = codes "Unsupported Media Type"
reason_of statuses.TooManyRequests = codes "Too Many Requests"
reason_of statuses.RequestHeaderFieldsTooLarge = codes "Request Header Fields Too Large"
reason_of statuses.BadGateway = codes "Bad Gateway"
reason_of statuses.ServiceUnavailable = codes "Service Unavailable"
reason_of statuses.GatewayTimeout = codes "Gateway Timeout"

-- 405 says which method is allowed (RFC 9110, section 15.5.6)
abbrev pub allow_line : ReplyStatus → List ℕ
allow_line statuses.MethodNotAllowed = line (codes "Allow: POST")
allow_line _ = []

-- the line that says after how many seconds to try again (RFC 9110, section 10.2.3)
abbrev pub wait_line : Option ℕ → List ℕ
wait_line (Some seconds) = line (codes "Retry-After: " ++ decimal seconds)
wait_line None = []

-- the status line and the fields that each reply has, and which method is allowed
unfoldable pub reply_front : ReplyStatus → List ℕ
reply_front status =
    line (codes "HTTP/1.1 " ++ decimal (code_of status) ++ codes " " ++ reason_of status)
    ++ line (codes "Content-Type: application/x-protobuf")
    ++ line (codes "Content-Length: 0")
    ++ line (codes "Connection: close")
    ++ allow_line status

-- the head of a reply, which has no body
abbrev pub reply_text : PostReply → List ℕ
reply_text reply = reply_front reply.status ++ (wait_line reply.retry_after ++ line [])
