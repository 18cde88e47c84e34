-- The body of a message (RFC 9112, section 6).
use Rattle.std.specs.Prelude.{◌≡◌, ℕ, ◌<◌, ◌≤◌, nat_lt, Bool, false, ◌&&◌, List, [], ◌∷◌, length}
use Rattle.std.specs.Prelude.{bytes_eq, codes}
use Rattle.std.specs.Prelude.{if◌then◌else◌, Option, Some, None, Result, Ok, Err}
use Rattle.std.specs.Io.KnownBytes.{IsAtEnd}
use Rattle.http_header.specs.Token.{lowercase}
use Rattle.http_wire.specs.declared.body.Framing.{Framing as DeclaredFraming}
use Rattle.http_wire.specs.declared.body.Framing.TheVariants.{Empty, Sized, Chunked, ToEnd, Unknown}
use Rattle.http_wire.specs.declared.fault.HttpFault.{HttpFault}
use Rattle.http_wire.specs.declared.fault.HttpFault.TheVariants as faults
use Rattle.http_wire.specs.declared.limits.HeadLimits.{HeadLimits}
use Rattle.http_wire.specs.Chunks.{IsChunkedBody}
use Rattle.http_wire.specs.Fields.{NameAndValue, values_of, content_length}

-- how far a body goes: there is none, it has a number of bytes, it comes in chunks, it goes to the
-- end of the bytes, or the head doesn't say
pub data Framing : Type 0 where
  empty : Framing
  sized : ℕ → Framing
  chunked : Framing
  to_end : Framing
  unknown : Framing

-- how far a body goes by Content-Length, and where there is none
abbrev pub framing_by_length : Framing → Result (Option ℕ) HttpFault → Framing
framing_by_length otherwise (Ok None) = otherwise
framing_by_length otherwise (Ok (Some size)) = sized size
framing_by_length otherwise (Err fault) = unknown

-- the values of Transfer-Encoding are one, `chunked` in any case of letters (RFC 9112, section 6.1;
-- no other coding, and no list of codings: profile)
abbrev pub is_chunked : List (List ℕ) → Bool
is_chunked [] = false
is_chunked (value ∷ []) = bytes_eq (lowercase value) (codes "chunked")
is_chunked (value ∷ another ∷ values) = false

-- how far a body goes by the values of Transfer-Encoding, where the field is there
abbrev pub framing_by_coding : List (List ℕ) → Framing
framing_by_coding values = if is_chunked values then chunked else unknown

-- how far the body goes of a head with these fields: by Transfer-Encoding, where there is none by
-- Content-Length, and where there is neither
abbrev pub framing_by_fields : Framing → List NameAndValue → Framing
framing_by_fields otherwise fields =
    if nat_lt 0 (length (values_of (codes "transfer-encoding") fields))
    then framing_by_coding (values_of (codes "transfer-encoding") fields)
    else framing_by_length otherwise
    (content_length (values_of (codes "content-length") fields))

-- both Transfer-Encoding and Content-Length are there
abbrev pub has_both_framings : List NameAndValue → Bool
has_both_framings fields =
    nat_lt 0 (length (values_of (codes "transfer-encoding") fields))
    && nat_lt 0 (length (values_of (codes "content-length") fields))

-- how far a request's body goes: it isn't known where both fields are there (RFC 9112, section
-- 6.1), and there is none where neither is
abbrev pub request_framing : List NameAndValue → Framing
request_framing fields =
    if has_both_framings fields then unknown else framing_by_fields empty fields

-- a body of that size, of which those bytes were taken, then these were left
abbrev pub IsSizedBody : ℕ → ℕ → List ℕ → Option (List ℕ) → Type 0 → Result (List ℕ) HttpFault
    → Type 0
IsSizedBody limit size taken left failed (Ok body) =
    (body ≡ taken) × (length taken ≡ size) × (size ≤ limit)
IsSizedBody limit size taken left failed (Err faults.Ended) =
    IsAtEnd left × (length taken < size) × (size ≤ limit)
IsSizedBody limit size taken left failed (Err faults.Device) =
    failed × (length taken < size) × (size ≤ limit)
IsSizedBody limit size taken left failed (Err faults.TooLarge) = (taken ≡ []) × (limit < size)
IsSizedBody limit size taken left failed (Err faults.OutOfMemory) =
    (0 < length taken) × (length taken ≤ size) × (size ≤ limit)
IsSizedBody limit size taken left failed (Err faults.BadHead) = ⊥
IsSizedBody limit size taken left failed (Err faults.BadLength) = ⊥
IsSizedBody limit size taken left failed (Err faults.BadChunk) = ⊥

-- a body of all bytes, of which those were taken, then these were left
abbrev pub IsBodyToEnd : ℕ → List ℕ → Option (List ℕ) → Type 0 → Result (List ℕ) HttpFault
    → Type 0
IsBodyToEnd limit taken left failed (Ok body) =
    (body ≡ taken) × IsAtEnd left × (length taken ≤ limit)
IsBodyToEnd limit taken left failed (Err faults.Device) = failed × (length taken ≤ limit)
IsBodyToEnd limit taken left failed (Err faults.TooLarge) = limit < length taken
IsBodyToEnd limit taken left failed (Err faults.OutOfMemory) =
    (0 < length taken) × (length taken ≤ limit)
IsBodyToEnd limit taken left failed (Err faults.Ended) = ⊥
IsBodyToEnd limit taken left failed (Err faults.BadHead) = ⊥
IsBodyToEnd limit taken left failed (Err faults.BadLength) = ⊥
IsBodyToEnd limit taken left failed (Err faults.BadChunk) = ⊥

-- what a body is within the limits, of which those bytes were taken, then these were left
abbrev pub IsBody : Framing → HeadLimits → List ℕ → Option (List ℕ) → Type 0
    → Result (List ℕ) HttpFault → Type 0
IsBody empty limits taken left failed answer = (answer ≡ Ok []) × (taken ≡ [])
IsBody (sized size) limits taken left failed answer =
    IsSizedBody limits.body size taken left failed answer
IsBody chunked limits taken left failed answer = IsChunkedBody limits taken left failed answer
IsBody to_end limits taken left failed answer = IsBodyToEnd limits.body taken left failed answer
IsBody unknown limits taken left failed answer = (answer ≡ Err faults.BadLength) × (taken ≡ [])

-- how far a body goes, as the code says it
abbrev pub framing_view : DeclaredFraming → Framing
framing_view Empty = empty
framing_view (Sized size) = sized size
framing_view Chunked = chunked
framing_view ToEnd = to_end
framing_view Unknown = unknown
