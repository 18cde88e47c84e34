-- What a parse of a head's text answers, and what is kept of it.
use Rattle.std.specs.Prelude.{◌≡◌, ℕ, List, All, Option}
use Rattle.httparse.specs.Grammar.{ResponseHead, IsResponseHead, print_response, status_code}
use Rattle.httparse.specs.Spans.{IsResponseAt, IsResponseWithin}
use Rattle.httparse.specs.declared.spans.HeaderSpan.{HeaderSpan}
use Rattle.httparse.specs.declared.spans.ResponseSpans.{ResponseSpans}
use Rattle.http_header.specs.FieldValue.{FieldValue}
use Rattle.http_header.specs.HeaderMap.{Entries}
use Rattle.http_wire.specs.declared.limits.HeadLimits.{HeadLimits}
use Rattle.http_wire.specs.Fields.{IsTaken, KeepsFields}
use Rattle.http_wire.specs.Heads.{CoversSuchHead}
use Rattle.otlp_http.specs.Heads.{fields_of, ComesAfter, IsHeadText, IsInterimStatus}

-- the spans cover the parts of that head, which is the text
abbrev pub CoversHead : HeadLimits → List ℕ → List HeaderSpan → ResponseSpans → ResponseHead
    → Type 0
CoversHead limits text spans found head =
    CoversSuchHead IsResponseHead print_response (λ head. head.fields)
    IsResponseAt IsResponseWithin limits text spans found head

-- a head that isn't interim came after the interim ones
pub record HasFinalHead (limits : HeadLimits) (old new : Option (List ℕ)) (text : List ℕ)
    (spans : List HeaderSpan) (found : ResponseSpans) : Type 0 where
  pub interims : List ResponseHead
  pub head : ResponseHead
  pub comes : ComesAfter limits old new interims text
  pub covers : CoversHead limits text spans found head
  pub final : ¬ (IsInterimStatus found.code)

-- a head that isn't interim came after the interim ones, of HTTP/1.MINOR, and its fields are kept
pub record HasKeptHead (limits : HeadLimits) (old new : Option (List ℕ)) (minor status : ℕ)
    (kept : Entries FieldValue) : Type 0 where
  pub interims : List ResponseHead
  pub head : ResponseHead
  pub comes : ComesAfter limits old new interims (print_response head)
  pub valid : IsHeadText limits (print_response head) head
  pub final : ¬ (IsInterimStatus (status_code head))
  pub taken : All IsTaken (fields_of head)
  pub version : minor ≡ head.minor
  pub code : status ≡ status_code head
  pub keeps : KeepsFields kept (fields_of head)
