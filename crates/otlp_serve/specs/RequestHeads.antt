-- What comes where the head of a request is due (RFC 9112, sections 2, 3 and 5, as `httparse` has
-- them).
use Rattle.std.specs.Prelude.{ℕ, List, map, Option}
use Rattle.httparse.specs.Grammar.{RequestHead, IsRequestHead, print_request}
use Rattle.httparse.specs.Grammar.{HasNoRequest, NeverHasRequest, MayBecomeRequest}
use Rattle.httparse.specs.Spans.{RequestExceeds, name_and_value}
use Rattle.http_wire.specs.declared.fault.HttpFault.{HttpFault}
use Rattle.http_wire.specs.declared.limits.HeadLimits.{HeadLimits}
use Rattle.http_wire.specs.Fields.{NameAndValue}
use Rattle.http_wire.specs.Heads.{IsSuchHead, LacksSuchHead}

-- the fields of a head, in their order
abbrev pub request_fields : RequestHead → List NameAndValue
request_fields head = map name_and_value head.fields

-- the text is that head, within the limits of bytes and of fields
abbrev pub IsRequestText : HeadLimits → List ℕ → RequestHead → Type 0
IsRequestText limits text head =
    IsSuchHead IsRequestHead print_request (λ head. head.fields) limits text head

-- no front of the text is a head, and bytes can follow that make it one, or it ends in a target
abbrev pub IsUnfinishedRequest : List ℕ → Type 0
IsUnfinishedRequest text = HasNoRequest text × MayBecomeRequest text

-- the text came where a head was due, then these bytes were left, and no head came for this cause
abbrev pub LacksRequest : HeadLimits → List ℕ → Option (List ℕ) → Type 0 → HttpFault → Type 0
LacksRequest limits text left failed fault =
    LacksSuchHead HasNoRequest MayBecomeRequest NeverHasRequest RequestExceeds
    limits text left failed fault
