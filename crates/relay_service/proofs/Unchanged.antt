-- What is refused leaves what keeps bodies as it was, and what is kept of a copy is kept.
use Rattle.std.proofs.Common.{◌≡◌, ℕ, List, Ok, Err, Result, subst}
use Rattle.std.specs.Prelude.{OnErr}
use Rattle.otlp_serve.specs.Posts.{HttpPost}
use Rattle.otlp_receiver.specs.declared.reading.Bounds.{Bounds}
use Rattle.otlp_receiver.specs.declared.reply.denial.Denial.{Denial}
use Rattle.relay_service.specs.Receives.{Keeping, Keeps, Lacking, Receives, ReceivesContent}
use Rattle.relay_service.specs.declared.receive.Outcome.{Outcome}
use Rattle.relay_service.specs.declared.receive.Outcome.TheVariants as outcomes

module _ {K : Type 0} (keeps : Keeping K) (lacks_room : Lacking K) (fails : Keeping K) (old : K)
    (outcome : Outcome) (reason : Denial) (is : outcome ≡ outcomes.Denied reason) (new : K) where
  -- of a body that is to be kept
  keeps_same : (body : List ℕ) → Keeps keeps lacks_room fails old body outcome new → new ≡ old
  keeps_same body (Keeps.kept k o) = cc
  keeps_same body (Keeps.full l o same) = same
  keeps_same body (Keeps.no_memory o same) = same
  keeps_same body (Keeps.failed f o) = cc

  -- of a content
  content_same : (content : List ℕ) (room alone : ℕ)
      → ReceivesContent keeps lacks_room fails old content room alone outcome new → new ≡ old
  content_same content room alone (ReceivesContent.recalled r k o) = cc
  content_same content room alone (ReceivesContent.no_room a o same) = same
  content_same content room alone (ReceivesContent.unread a u o same) = same
  content_same content room alone (ReceivesContent.no_memory a u o same) = same
  content_same content room alone (ReceivesContent.bad_ids a r h o same) = same
  content_same content room alone (ReceivesContent.read a r h k) = keeps_same content k

  -- A post that is refused leaves what keeps bodies as it was.
  pub unchanged : (bounds : Bounds) (post : HttpPost) (room : ℕ)
      → Receives keeps lacks_room fails old bounds post room outcome new → new ≡ old
  unchanged bounds post room (Receives.denied r d o same) = same
  unchanged bounds post room (Receives.no_memory t o same) = same
  unchanged bounds post room (Receives.received content h r) = content_same content room _ r

-- What becomes of a copy becomes of what it is a copy of.
pub keeps_copy : {K : Type 0} (keeps : Keeping K) (lacks_room : Lacking K) (fails : Keeping K)
    (old : K) (body content : List ℕ) (outcome : Outcome) (new : K) → body ≡ content
    → Keeps keeps lacks_room fails old body outcome new
    → Keeps keeps lacks_room fails old content outcome new
keeps_copy keeps lacks_room fails old body content outcome new is became =
    subst (λ b. Keeps keeps lacks_room fails old b outcome new) is became

-- What holds anyway holds where there is an error.
pub on_err : {T E P : Type 0} (r : Result T E) → P → OnErr r P
on_err (Ok x) p = tt
on_err (Err e) p = p
