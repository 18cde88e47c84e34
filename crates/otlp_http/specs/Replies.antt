-- The meaning of a reply: of the bytes, of how they stop and of where memory was refused.
use Rattle.std.specs.Prelude.{◌≡◌, ℕ, ◌⊎◌, ◌||◌, ◌==◌, if◌then◌else◌, List, ◌++◌, length, All}
use Rattle.std.specs.Prelude.{codes}
use Rattle.std.specs.Prelude.{Option, Result}
use Rattle.httparse.specs.Grammar.{ResponseHead, print_response, status_code}
use Rattle.retry_core.specs.declared.outcome.RetryAfter.{RetryAfter}
use Rattle.http_wire.specs.declared.fault.HttpFault.{HttpFault}
use Rattle.http_wire.specs.declared.fault.HttpFault.TheVariants as faults
use Rattle.http_wire.specs.declared.limits.HeadLimits.{HeadLimits}
use Rattle.http_wire.specs.Bodies.{Framing, empty, to_end, framing_by_fields, IsBody}
use Rattle.otlp_http.specs.Heads.{fields_of, ComesAfter, IsHeadText, IsInterimStatus, LacksHead}
use Rattle.http_wire.specs.Fields.{NameAndValue, values_of, IsTaken}
use Rattle.otlp_http.specs.Waits.{retry_after}

-- how far a body goes: there is none for 204 and 304, else as the fields say, and to the end where
-- they say nothing (RFC 9112, section 6.3)
abbrev pub framing_of : ℕ → List NameAndValue → Framing
framing_of status fields =
    if status == 204 || status == 304 then empty else framing_by_fields to_end fields

-- a reply as contracts see it
pub record HttpReply : Type 0 where
  pub status : ℕ
  pub retry_after : Option RetryAfter
  pub body : Result (List ℕ) HttpFault

-- interim heads came, then the reply's head, and then as much of a body as the head says
pub record IsReply (limits : HeadLimits) (old new : Option (List ℕ)) (failed : Type 0)
    (reply : HttpReply) : Type 0 where
  pub interims : List ResponseHead
  pub head : ResponseHead
  pub taken : List ℕ
  pub comes : ComesAfter limits old new interims (print_response head ++ taken)
  pub valid : IsHeadText limits (print_response head) head
  pub final : ¬ (IsInterimStatus (status_code head))
  pub kept : All IsTaken (fields_of head)
  pub status : reply.status ≡ status_code head
  pub wait : reply.retry_after ≡ retry_after (values_of (codes "retry-after") (fields_of head))
  pub body : IsBody (framing_of (status_code head) (fields_of head)) limits taken new failed
      reply.body

-- a whole head came after the interim ones, and is no reply's for this cause: it is a seventeenth
-- interim one, has a field that `http_header` refuses, or memory for its fields was refused
abbrev pub RefusesHead : List ResponseHead → ResponseHead → HttpFault → Type 0
RefusesHead interims head faults.BadHead =
    ((length interims ≡ 16) × IsInterimStatus (status_code head))
    ⊎ (¬ (IsInterimStatus (status_code head)) × ¬ (All IsTaken (fields_of head)))
RefusesHead interims head faults.OutOfMemory = ¬ (IsInterimStatus (status_code head))
RefusesHead interims head faults.Ended = ⊥
RefusesHead interims head faults.Device = ⊥
RefusesHead interims head faults.BadLength = ⊥
RefusesHead interims head faults.BadChunk = ⊥
RefusesHead interims head faults.TooLarge = ⊥

-- interim heads came, then a text, and that is no head of a reply for this cause
pub record HasNoReply (limits : HeadLimits) (old new : Option (List ℕ)) (failed : Type 0)
    (fault : HttpFault) : Type 0 where
  pub interims : List ResponseHead
  pub text : List ℕ
  pub comes : ComesAfter limits old new interims text
  pub cause : LacksHead limits text new failed fault
      ⊎ ((head : ResponseHead) × IsHeadText limits text head × RefusesHead interims head fault)
