-- The text of a reply.
use Rattle.std.proofs.Common.{◌≡◌, ℕ, ◌+◌, ◌<◌, ◌≤◌, ◌^◌, List, [], ◌∷◌, ◌++◌, length, ap, ◌∙◌}
use Rattle.std.proofs.Common.{codes, arith, append_assoc, length-append}
use Rattle.std.specs.Prelude.{decimal, if◌then◌else◌, is_some, MatchOption, Option, Some, None}
use Rattle.std.specs.List.{concat}
use Rattle.otlp_serve.specs.declared.status.ReplyStatus.{ReplyStatus}
use Rattle.otlp_serve.specs.declared.status.ReplyStatus.TheVariants as statuses
use Rattle.otlp_serve.specs.Replies.{allow_line, code_of, reason_of, reply_front, wait_line}
use Rattle.http_wire.specs.Lines.{line}

-- The parts of the lines, one after the other, are the lines.
lines_of_parts : (version code space reason type size close allow name digits last end : List ℕ)
    → version
    ++ (code ++ (space ++ (reason ++ (end ++ (type ++ (end ++ (size ++ (end ++ (close ++ (end
    ++ (allow ++ (name ++ (digits ++ (last ++ end))))))))))))))
    ≡ (((version ++ code ++ space ++ reason) ++ end) ++ (type ++ end) ++ (size ++ end)
    ++ (close ++ end) ++ allow)
    ++ ((name ++ (digits ++ last)) ++ end)
lines_of_parts version code space reason type size close allow name digits last end =
    simp append_assoc

-- the pieces that are written
abbrev pub pieces : ReplyStatus → List ℕ → List ℕ → List ℕ → List (List ℕ)
pieces status name digits last =
    codes "HTTP/1.1 " ∷ decimal (code_of status) ∷ codes " " ∷ reason_of status
    ∷ codes "\r\nContent-Type: application/x-protobuf\r\nContent-Length: 0\r\nConnection: close\r\n"
    ∷ allow_line status ∷ name ∷ digits ∷ last ∷ codes "\r\n" ∷ []

-- The pieces, one after the other, are the reply.
pub concat_reply : (status : ReplyStatus) (name digits last wait : List ℕ)
    → name ++ (digits ++ last) ≡ wait
    → concat (pieces status name digits last) ≡ reply_front status ++ (wait ++ line [])
unfolding reply_front
concat_reply status name digits last wait is =
    lines_of_parts (codes "HTTP/1.1 ") (decimal (code_of status)) (codes " ") (reason_of status)
    (codes "Content-Type: application/x-protobuf") (codes "Content-Length: 0")
    (codes "Connection: close")
    (allow_line status) name digits last (codes "\r\n")
    ∙ ap (λ t. reply_front status ++ (t ++ line [])) is

reason_short : (status : ReplyStatus) → length (reason_of status) ≤ 40
reason_short statuses.Ok = omega arith
reason_short statuses.BadRequest = omega arith
reason_short statuses.NotFound = omega arith
reason_short statuses.MethodNotAllowed = omega arith
reason_short statuses.ContentTooLarge = omega arith
reason_short statuses.UnsupportedMediaType = omega arith
reason_short statuses.TooManyRequests = omega arith
reason_short statuses.RequestHeaderFieldsTooLarge = omega arith
reason_short statuses.BadGateway = omega arith
reason_short statuses.ServiceUnavailable = omega arith
reason_short statuses.GatewayTimeout = omega arith

allow_short : (status : ReplyStatus) → length (allow_line status) ≤ 40
allow_short statuses.Ok = omega arith
allow_short statuses.BadRequest = omega arith
allow_short statuses.NotFound = omega arith
allow_short statuses.MethodNotAllowed = omega arith
allow_short statuses.ContentTooLarge = omega arith
allow_short statuses.UnsupportedMediaType = omega arith
allow_short statuses.TooManyRequests = omega arith
allow_short statuses.RequestHeaderFieldsTooLarge = omega arith
allow_short statuses.BadGateway = omega arith
allow_short statuses.ServiceUnavailable = omega arith
allow_short statuses.GatewayTimeout = omega arith

sum_of_lengths : (version code space reason middle allow name digits last end : List ℕ)
    → length (version
    ++ (code ++ (space ++ (reason ++ (middle ++ (allow ++ (name ++ (digits ++ (last ++ end)))))))))
    ≡ length version
    + (length code
    + (length space
    + (length reason
    + (length middle
    + (length allow + (length name + (length digits + (length last + length end))))))))
sum_of_lengths version code space reason middle allow name digits last end = simp length-append

-- The reply has fewer than 2^64 bytes, so its length can be counted.
pub reply_short : (status : ReplyStatus) (name digits last : List ℕ) → length name ≤ 40
    → length last ≤ 40
    → length (decimal (code_of status)) + length digits ≤ 80
    → length (concat (pieces status name digits last)) < 2 ^ 64
reply_short status name digits last short_name short_last short =
    let sum =
    sum_of_lengths (codes "HTTP/1.1 ") (decimal (code_of status)) (codes " ") (reason_of status)
    (codes "\r\nContent-Type: application/x-protobuf\r\nContent-Length: 0\r\nConnection: close\r\n")
    (allow_line status) name digits last (codes "\r\n") in
    let reason = reason_short status in
    let allow = allow_short status in
    omega (arith, sum, reason, allow, short_name, short_last, short)

-- what comes before the seconds, and after them
abbrev pub wait_name : Option ℕ → List ℕ
wait_name seconds = if is_some seconds then codes "Retry-After: " else []

abbrev pub wait_end : Option ℕ → List ℕ
wait_end seconds = if is_some seconds then codes "\r\n" else []

-- The seconds, with what comes before and after them, are the line of Retry-After.
pub wait_parts : (seconds : Option ℕ) (digits : List ℕ)
    → MatchOption seconds (digits ≡ []) (λ n. digits ≡ decimal n)
    → wait_name seconds ++ (digits ++ wait_end seconds) ≡ wait_line seconds
wait_parts (Some n) digits is = ap (λ t. codes "Retry-After: " ++ (t ++ codes "\r\n")) is
wait_parts None digits is = ap (λ t. t ++ []) is

-- What comes before the seconds of Retry-After has at most 40 bytes.
pub name_short : (seconds : Option ℕ) → length (wait_name seconds) ≤ 40
name_short (Some n) = omega arith
name_short None = omega arith

-- What comes after the seconds of Retry-After has at most 40 bytes.
pub end_short : (seconds : Option ℕ) → length (wait_end seconds) ≤ 40
end_short (Some n) = omega arith
end_short None = omega arith
