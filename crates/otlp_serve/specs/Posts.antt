-- The meaning of a request: of the bytes, of how they stop and of where memory was refused.
use Rattle.std.specs.Prelude.{◌≡◌, ℕ, ◌⊎◌, List, ◌++◌, All, Option, Ok, Err, string_bytes}
use Rattle.std.specs.Io.KnownBytes.{Consumes}
use Rattle.httparse.specs.Grammar.{RequestHead, print_request}
use Rattle.http_header.specs.FieldValue.{FieldValue}
use Rattle.http_header.specs.HeaderMap.{Entries}
use Rattle.http_wire.specs.declared.fault.HttpFault.{HttpFault}
use Rattle.http_wire.specs.declared.limits.HeadLimits.{HeadLimits}
use Rattle.http_wire.specs.Bodies.{request_framing, IsBody}
use Rattle.http_wire.specs.Faults.{CountsAtHead, CountsFailedRead}
use Rattle.http_wire.specs.Fields.{IsTaken, KeepsFields, RefusesFields}
use Rattle.otlp_serve.specs.declared.fault.PostFault.{PostFault}
use Rattle.otlp_serve.specs.declared.fault.PostFault.TheVariants.{Head, Body}
use Rattle.otlp_serve.specs.declared.post.Post.{Post}
use Rattle.otlp_serve.specs.RequestHeads.{request_fields, IsRequestText, LacksRequest}

-- a request as contracts see it
pub record HttpPost : Type 0 where
  pub method : List ℕ
  pub target : List ℕ
  pub fields : Entries FieldValue
  pub body : List ℕ

abbrev pub post_view : {A : Type 0} → Post A → HttpPost
post_view post = record {
  method = string_bytes post.method;
  target = string_bytes post.target;
  fields = post.fields;
  body = post.body.items;
}

-- a head came whose fields `http_header` takes, and then these bytes
pub record ComesWith (limits : HeadLimits) (old new : Option (List ℕ)) (head : RequestHead)
    (taken : List ℕ) : Type 0 where
  pub comes : Consumes old new (print_request head ++ taken)
  pub valid : IsRequestText limits (print_request head) head
  pub kept : All IsTaken (request_fields head)

-- a request's head came, and the whole body that it announces
pub record IsPost (limits : HeadLimits) (old new : Option (List ℕ)) (failed : Type 0)
    (post : HttpPost) : Type 0 where
  pub head : RequestHead
  pub taken : List ℕ
  pub comes : ComesWith limits old new head taken
  pub method : post.method ≡ head.method
  pub target : post.target ≡ head.target
  pub fields : KeepsFields post.fields (request_fields head)
  pub body : IsBody (request_framing (request_fields head)) limits taken new failed
      (Ok post.body)

-- a text came, and that is no head of a request for this cause: none is there, or it has a field
-- that `http_header` refuses, or memory for its parts was refused
pub record HasNoPostHead (limits : HeadLimits) (old new : Option (List ℕ)) (failed : Type 0)
    (fault : HttpFault) : Type 0 where
  pub text : List ℕ
  pub taken : Consumes old new text
  pub cause : LacksRequest limits text new failed fault
      ⊎ ((head : RequestHead) × IsRequestText limits text head
      × RefusesFields (request_fields head) fault)

-- a request's head came, and the body can't be had for this cause
pub record HasNoPostBody (limits : HeadLimits) (old new : Option (List ℕ)) (failed : Type 0)
    (fault : HttpFault) : Type 0 where
  pub head : RequestHead
  pub taken : List ℕ
  pub comes : ComesWith limits old new head taken
  pub body : IsBody (request_framing (request_fields head)) limits taken new failed (Err fault)

-- no request came for this cause
abbrev pub HasNoPost : HeadLimits → Option (List ℕ) → Option (List ℕ) → Type 0 → PostFault → Type 0
HasNoPost limits old new failed (Head fault) = HasNoPostHead limits old new failed fault
HasNoPost limits old new failed (Body fault) = HasNoPostBody limits old new failed fault

-- what the fault of a request says of the count of failures (profile)
abbrev pub CountsAtPost : PostFault → ℕ → ℕ → Type 0
CountsAtPost (Head fault) old new = CountsAtHead fault old new
CountsAtPost (Body fault) old new = CountsFailedRead {T = List ℕ} (Err fault) old new
