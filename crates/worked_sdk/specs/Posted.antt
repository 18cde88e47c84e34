-- The requests of the examples, and the lack of them. (RFC 9112, sections 2, 3 and 6.3)
use Rattle.std.specs.Prelude.{ℕ, List, [], ◌∷◌, codes, map, Some}
use Rattle.http_header.specs.FieldValue.{FieldValue, plain_value}
use Rattle.http_header.specs.HeaderMap.{Entries}
use Rattle.http_wire.specs.declared.limits.HeadLimits.{HeadLimits}
use Rattle.otlp_serve.specs.declared.fault.PostFault.{PostFault}
use Rattle.otlp_serve.specs.Posts.{HttpPost, IsPost, HasNoPost}
use Rattle.worked_sdk.specs.Replied.{usual}

-- These bytes, of which those are left, are this request by default, and no read failed.
abbrev pub ArePost : List ℕ → List ℕ → HttpPost → Type 0
ArePost bytes left post = IsPost usual (Some bytes) (Some left) ⊥ post

-- These bytes, of which those are left, are none within these limits for this cause.
abbrev pub AreNoPost : HeadLimits → List ℕ → List ℕ → PostFault → Type 0
AreNoPost limits bytes left fault = HasNoPost limits (Some bytes) (Some left) ⊥ fault

-- a request's head that announces three bytes
abbrev pub three_bytes : List ℕ
three_bytes = codes "PUT / HTTP/1.1\r\nContent-Length: 3\r\n\r\n"

-- some values under a name
abbrev pub under : List ℕ → List (List ℕ) → Entries FieldValue
under name values = (name, map plain_value values) ∷ []

-- a request without a body
abbrev pub post_with : List ℕ → List ℕ → Entries FieldValue → HttpPost
post_with method target fields =
    record { method = method; target = target; fields = fields; body = [] }

-- the type of OTLP's messages
abbrev pub typed : Entries FieldValue
typed = under (codes "content-type") (codes "application/x-protobuf" ∷ [])
