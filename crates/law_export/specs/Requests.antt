-- Bytes mean one request, or have one fault in its place. (RFC 9112, sections 2 to 6; limits:
-- profile)
use Rattle.std.specs.Prelude.{◌≡◌, ℕ, ◌⊎◌, List, [], ◌++◌, length, Some, Result, Ok, Err}
use Rattle.std.specs.Prelude.{MatchResult}
use Rattle.httparse.specs.Grammar.{NeverHasRequest, EndsInTarget}
use Rattle.httparse.specs.Spans.{RequestExceeds}
use Rattle.http_wire.specs.declared.fault.HttpFault.TheVariants as faults
use Rattle.http_wire.specs.declared.limits.HeadLimits.{HeadLimits}
use Rattle.http_wire.specs.Devices.{HasFailed}
use Rattle.otlp_serve.specs.declared.fault.PostFault.{PostFault}
use Rattle.otlp_serve.specs.declared.fault.PostFault.TheVariants.{Head, Body}
use Rattle.otlp_serve.specs.Answers.{field_values}
use Rattle.otlp_serve.specs.Posts.{HttpPost, IsPost, HasNoPost}

-- Bytes are a request, or have this fault in its place, where the other bytes are left and a read
-- failed in between or not.
abbrev pub MeansPost : HeadLimits → List ℕ → List ℕ → Type 0 → Result HttpPost PostFault → Type 0
MeansPost limits bytes left failed (Ok post) = IsPost limits (Some bytes) (Some left) failed post
MeansPost limits bytes left failed (Err fault) =
    HasNoPost limits (Some bytes) (Some left) failed fault

-- Memory was refused: for the head, or for the body.
abbrev pub LacksPostMemory : Result HttpPost PostFault → Type 0
LacksPostMemory (Ok post) = ⊥
LacksPostMemory (Err (Head fault)) = fault ≡ faults.OutOfMemory
LacksPostMemory (Err (Body fault)) = fault ≡ faults.OutOfMemory

-- What bytes mean by themselves: no read failed, by the counts before and after it, and no memory
-- was refused.
pub record IsPostMeaning (limits : HeadLimits) (bytes : List ℕ) (answer : Result HttpPost PostFault)
    : Type 0 where
  pub left : List ℕ
  pub old : ℕ
  pub new : ℕ
  pub means : MeansPost limits bytes left (HasFailed old new) answer
  pub sound : ¬ (HasFailed old new)
  pub ample : ¬ (LacksPostMemory answer)

-- Two requests have the same parts.
pub record IsSamePost (post other : HttpPost) : Type 0 where
  pub method : other.method ≡ post.method
  pub target : other.target ≡ post.target
  pub fields : (name : List ℕ) → field_values other name ≡ field_values post name
  pub body : other.body ≡ post.body

-- If bytes mean a request, they mean nothing else.
abbrev pub BytesMeanOnePost : Type 0
BytesMeanOnePost =
    (limits : HeadLimits) (bytes : List ℕ) (post : HttpPost) (answer : Result HttpPost PostFault)
    → IsPostMeaning limits bytes (Ok post) → IsPostMeaning limits bytes answer
    → MatchResult answer (IsSamePost post) (λ _. ⊥)

-- A head begins that has too many fields.
pub record HasManyRequestFields (limits : HeadLimits) (bytes : List ℕ) : Type 0 where
  pub text : List ℕ
  pub rest : List ℕ
  pub whole : bytes ≡ text ++ rest
  pub many : RequestExceeds limits.fields text

-- The bytes end, or reach the limit, in a target that no head can have, as one that isn't UTF-8:
-- that is reported where the target ends.
pub record StopsInBadTarget (limits : HeadLimits) (bytes : List ℕ) : Type 0 where
  pub text : List ℕ
  pub rest : List ℕ
  pub whole : bytes ≡ text ++ rest
  pub stops : (rest ≡ []) ⊎ (length text ≡ limits.head)
  pub inside : EndsInTarget text
  pub never : NeverHasRequest text

-- If bytes mean no request, it is for one cause, unless a head has too many fields or stops in a
-- bad target.
abbrev pub BytesMeanOnePostFault : Type 0
BytesMeanOnePostFault =
    (limits : HeadLimits) (bytes : List ℕ) (fault other : PostFault)
    → IsPostMeaning limits bytes (Err fault) → IsPostMeaning limits bytes (Err other)
    → ¬ (HasManyRequestFields limits bytes) → ¬ (StopsInBadTarget limits bytes) → other ≡ fault
