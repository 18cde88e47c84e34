-- How a post comes to be answered.
use Rattle.std.proofs.Common.{◌≡◌, ℕ, List, Some, None, refl, subst}
use Rattle.http.specs.Request.{head_of}
use Rattle.http.specs.declared.request.Request.{Request}
use Rattle.http_server.specs.declared.response.Response.{Response}
use Rattle.otlp_receiver.specs.Denials.{IsDenial}
use Rattle.otlp_receiver.specs.Requests.{denial_format}
use Rattle.otlp_receiver.specs.declared.reply.denial.Denial.{Denial}
use Rattle.otlp_receiver.specs.declared.reply.denial.Denial.TheVariants as denials
use Rattle.otlp_receiver.specs.declared.reply.format.Format.{Format}
use Rattle.otlp_receiver.specs.Contents.{TakesMemory}
use Rattle.otlp_receiver.specs.Posts.{HasContent, IsAnswer, IsDenied, post_of, refusal_of_post}
use Rattle.otlp_receiver.specs.Reads.{room_alone}
use Rattle.otlp_receiver.specs.declared.reading.Bounds.{Bounds}
use Rattle.view_service.specs.Receives.{AnswersContent, AnswersExport, Giving, Keeping, Lacking}
use Rattle.view_service.specs.Receives.{Receives, ReceivesContent}

module _ {A K : Type 0} (keeps : Keeping A K) (lacks_room : Lacking A K) (gives_up : Giving K)
    (old : K) (request : Request (List ℕ)) (bounds : Bounds) (room : ℕ)
    (response : Response) (new : K) (format : Format)
    (is : format ≡ denial_format (Some (head_of request))) where
  abbrev Answers : Type 0
  Answers = AnswersExport keeps lacks_room gives_up old request bounds room response new

  -- A post that is refused is answered so, and the keeper stays as it is.
  pub is_denied : (denial : Denial) → IsDenied bounds.max_content (post_of request) denial
      → IsDenial denial format response → new ≡ old → Answers
  is_denied denial why answer same = (
    Some denial,
    Receives.denied denial why refl same,
    subst (λ f. IsDenial denial f response) is answer,
  )

  -- A post that memory refuses to decode is answered so, after the keeper gave up its oldest
  -- traces.
  pub is_undecoded : refusal_of_post (post_of request) ≡ None
      → TakesMemory (post_of request)
      → IsDenial denials.OutOfMemory format response → gives_up old bounds.max_content new → Answers
  is_undecoded why coding answer gave = (
    Some denials.OutOfMemory,
    Receives.undecoded why coding refl gave,
    subst (λ f. IsDenial denials.OutOfMemory f response) is answer,
  )

  -- A post whose content is answered is answered so.
  pub is_read : (content : List ℕ) → HasContent bounds.max_content (post_of request) content
      → (alone : ℕ) → alone ≡ room_alone bounds.max_pending (post_of request).body
      → AnswersContent keeps lacks_room gives_up old content room alone format response new
      → Answers
  is_read content has alone fits answer = (
    answer.0,
    Receives.read content has
        (subst (λ n. ReceivesContent keeps lacks_room gives_up old content room n answer.0 new) fits
        answer.1),
    subst (λ f. IsAnswer answer.0 f response) is answer.2,
  )
