-- Bytes mean one reply, or have one fault in its place. (RFC 9112, sections 2 to 6; limits:
-- profile)
use Rattle.std.specs.Prelude.{◌≡◌, ℕ, List, ◌++◌, All, Some, Result, Ok, Err}
use Rattle.std.specs.List.{flat_map}
use Rattle.httparse.specs.Grammar.{ResponseHead, print_response}
use Rattle.httparse.specs.Spans.{ResponseExceeds}
use Rattle.http_wire.specs.declared.fault.HttpFault.{HttpFault}
use Rattle.http_wire.specs.declared.fault.HttpFault.TheVariants as faults
use Rattle.http_wire.specs.declared.limits.HeadLimits.{HeadLimits}
use Rattle.http_wire.specs.Devices.{HasFailed}
use Rattle.otlp_http.specs.Heads.{IsInterim}
use Rattle.otlp_http.specs.Replies.{HttpReply, IsReply, HasNoReply}

-- Bytes are a reply, or have this fault in its place, where the other bytes are left and a read
-- failed in between or not.
abbrev pub Means : HeadLimits → List ℕ → List ℕ → Type 0 → Result HttpReply HttpFault → Type 0
Means limits bytes left failed (Ok reply) = IsReply limits (Some bytes) (Some left) failed reply
Means limits bytes left failed (Err fault) =
    HasNoReply limits (Some bytes) (Some left) failed fault

-- Memory was refused: for the body, or for the head.
abbrev pub LacksMemory : Result HttpReply HttpFault → Type 0
LacksMemory (Ok reply) = reply.body ≡ Err faults.OutOfMemory
LacksMemory (Err fault) = fault ≡ faults.OutOfMemory

-- What bytes mean by themselves: no read failed, by the counts before and after it, and no memory
-- was refused.
pub record IsMeaning (limits : HeadLimits) (bytes : List ℕ) (answer : Result HttpReply HttpFault)
    : Type 0 where
  pub left : List ℕ
  pub old : ℕ
  pub new : ℕ
  pub means : Means limits bytes left (HasFailed old new) answer
  pub sound : ¬ (HasFailed old new)
  pub ample : ¬ (LacksMemory answer)

-- After interim heads a head begins that has too many fields.
pub record HasManyFields (limits : HeadLimits) (bytes : List ℕ) : Type 0 where
  pub interims : List ResponseHead
  pub text : List ℕ
  pub rest : List ℕ
  pub each : All (IsInterim limits) interims
  pub whole : bytes ≡ flat_map print_response interims ++ (text ++ rest)
  pub many : ResponseExceeds limits.fields text

-- If bytes mean a reply, they mean nothing else.
abbrev pub BytesMeanOneReply : Type 0
BytesMeanOneReply =
    (limits : HeadLimits) (bytes : List ℕ) (reply : HttpReply) (answer : Result HttpReply HttpFault)
    → IsMeaning limits bytes (Ok reply) → IsMeaning limits bytes answer → answer ≡ Ok reply

-- If bytes mean no reply, it is for one cause, unless a head has too many fields.
abbrev pub BytesMeanOneFault : Type 0
BytesMeanOneFault =
    (limits : HeadLimits) (bytes : List ℕ) (fault other : HttpFault)
    → IsMeaning limits bytes (Err fault) → IsMeaning limits bytes (Err other)
    → ¬ (HasManyFields limits bytes) → other ≡ fault
