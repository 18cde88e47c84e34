-- The bodies in chunks of the examples. (RFC 9112, sections 6.1 and 7.1)
use Rattle.std.specs.Prelude.{ℕ, List, codes, Some, Result}
use Rattle.http_wire.specs.declared.fault.HttpFault.{HttpFault}
use Rattle.http_wire.specs.declared.limits.HeadLimits.{HeadLimits}
use Rattle.http_wire.specs.Chunks.{IsChunkedBody}

-- These bytes, after which those are left, are this body within these limits, or none for this
-- cause, and no read failed.
abbrev pub AreChunks : HeadLimits → List ℕ → List ℕ → Result (List ℕ) HttpFault → Type 0
AreChunks limits bytes left answer = IsChunkedBody limits bytes (Some left) ⊥ answer

-- heads of a reply and of a request that announce chunks
abbrev pub coded_reply : List ℕ
coded_reply = codes "HTTP/1.1 200 OK\r\nTransfer-Encoding: chunked\r\n\r\n"

abbrev pub coded_post : List ℕ
coded_post = codes "PUT / HTTP/1.1\r\nTransfer-Encoding: chunked\r\n\r\n"
