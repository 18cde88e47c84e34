-- What comes where the head of a reply is due (RFC 9112, sections 2 to 5, as `httparse` has them).
use Rattle.std.specs.Prelude.{ℕ, ◌<◌, ◌≤◌, List, ◌++◌, length, map, Option, All}
use Rattle.std.specs.List.{flat_map}
use Rattle.std.specs.Io.KnownBytes.{Consumes}
use Rattle.httparse.specs.Grammar.{ResponseHead, IsResponseHead, print_response, status_code}
use Rattle.httparse.specs.Grammar.{HasNoResponse, NeverHasResponse, MayBecomeResponse}
use Rattle.httparse.specs.Spans.{ResponseExceeds, name_and_value}
use Rattle.http_wire.specs.declared.fault.HttpFault.{HttpFault}
use Rattle.http_wire.specs.declared.limits.HeadLimits.{HeadLimits}
use Rattle.http_wire.specs.Fields.{NameAndValue}
use Rattle.http_wire.specs.Heads.{IsSuchHead, LacksSuchHead}

-- the fields of a head, in their order
abbrev pub fields_of : ResponseHead → List NameAndValue
fields_of head = map name_and_value head.fields

-- the text is that head, within the limits of bytes and of fields
abbrev pub IsHeadText : HeadLimits → List ℕ → ResponseHead → Type 0
IsHeadText limits text head =
    IsSuchHead IsResponseHead print_response (λ head. head.fields) limits text head

-- no front of the text is a head, and bytes can follow that make it one
abbrev pub IsUnfinished : List ℕ → Type 0
IsUnfinished text = HasNoResponse text × MayBecomeResponse text

-- the text came where a head was due, then these bytes were left, and no head came for this cause
abbrev pub LacksHead : HeadLimits → List ℕ → Option (List ℕ) → Type 0 → HttpFault → Type 0
LacksHead limits text left failed fault =
    LacksSuchHead HasNoResponse MayBecomeResponse NeverHasResponse ResponseExceeds
    limits text left failed fault

-- a status from 100 to 199
abbrev pub IsInterimStatus : ℕ → Type 0
IsInterimStatus status = (100 ≤ status) × (status < 200)

-- an interim head within the limits (RFC 9110, section 15.2)
abbrev pub IsInterim : HeadLimits → ResponseHead → Type 0
IsInterim limits head =
    IsHeadText limits (print_response head) head × IsInterimStatus (status_code head)

-- at most 16 interim heads came (profile), and then the text
pub record ComesAfter (limits : HeadLimits) (old new : Option (List ℕ))
    (interims : List ResponseHead) (text : List ℕ) : Type 0 where
  pub each : All (IsInterim limits) interims
  pub few : length interims ≤ 16
  pub taken : Consumes old new (flat_map print_response interims ++ text)
