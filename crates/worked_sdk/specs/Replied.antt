-- The replies of the examples, and the lack of them. (RFC 9112, sections 2 to 6)
use Rattle.std.specs.Prelude.{ℕ, List, [], ◌∷◌, codes, Option, Some, Result}
use Rattle.retry_core.specs.declared.outcome.RetryAfter.{RetryAfter}
use Rattle.http_wire.specs.declared.fault.HttpFault.{HttpFault}
use Rattle.http_wire.specs.declared.limits.HeadLimits.{HeadLimits}
use Rattle.otlp_http.specs.Replies.{IsReply, HasNoReply}

-- the limits by default
abbrev pub usual : HeadLimits
usual = record { head = 16384; fields = 64; body = 65536 }

-- These bytes, of which those are left, are a reply with this status, this wait and this body, and
-- no read failed.
abbrev pub AreReply : List ℕ → List ℕ → ℕ → Option RetryAfter → Result (List ℕ) HttpFault → Type 0
AreReply bytes left status wait body =
    IsReply usual (Some bytes) (Some left) ⊥
    (record { status = status; retry_after = wait; body = body })

-- These bytes, of which those are left, are none within these limits for this cause.
abbrev pub AreNone : HeadLimits → List ℕ → List ℕ → HttpFault → Type 0
AreNone limits bytes left fault = HasNoReply limits (Some bytes) (Some left) ⊥ fault

-- a body that rejects two spans
abbrev pub two_rejected : List ℕ
two_rejected = 10 ∷ 5 ∷ 8 ∷ 2 ∷ 18 ∷ 1 ∷ 120 ∷ []

-- an interim head
abbrev pub continue : List ℕ
continue = codes "HTTP/1.1 100 Continue\r\n\r\n"

-- a reply's head that announces seven bytes
abbrev pub seven_bytes : List ℕ
seven_bytes = codes "HTTP/1.1 200 OK\r\nContent-Length: 7\r\n\r\n"
