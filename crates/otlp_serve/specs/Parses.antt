-- What a parse of a request's head answers, and what is kept of it.
use Rattle.std.specs.Prelude.{◌≡◌, ℕ, List, All, Option}
use Rattle.std.specs.Io.KnownBytes.{Consumes}
use Rattle.httparse.specs.Grammar.{RequestHead, IsRequestHead, print_request}
use Rattle.httparse.specs.Spans.{IsRequestAt, IsRequestWithin}
use Rattle.httparse.specs.declared.spans.HeaderSpan.{HeaderSpan}
use Rattle.httparse.specs.declared.spans.RequestSpans.{RequestSpans}
use Rattle.http_header.specs.FieldValue.{FieldValue}
use Rattle.http_header.specs.HeaderMap.{Entries}
use Rattle.http_wire.specs.declared.limits.HeadLimits.{HeadLimits}
use Rattle.http_wire.specs.Fields.{IsTaken, KeepsFields}
use Rattle.http_wire.specs.Heads.{CoversSuchHead}
use Rattle.otlp_serve.specs.RequestHeads.{request_fields, IsRequestText}

-- the spans cover the parts of that head, which is the text
abbrev pub CoversRequest : HeadLimits → List ℕ → List HeaderSpan → RequestSpans → RequestHead
    → Type 0
CoversRequest limits text spans found head =
    CoversSuchHead IsRequestHead print_request (λ head. head.fields)
    IsRequestAt IsRequestWithin limits text spans found head

-- a head came, and its parts are kept
pub record HasKeptRequest (limits : HeadLimits) (old new : Option (List ℕ))
    (method target : List ℕ) (kept : Entries FieldValue) : Type 0 where
  pub head : RequestHead
  pub comes : Consumes old new (print_request head)
  pub valid : IsRequestText limits (print_request head) head
  pub taken : All IsTaken (request_fields head)
  pub is_method : method ≡ head.method
  pub is_target : target ≡ head.target
  pub keeps : KeepsFields kept (request_fields head)
