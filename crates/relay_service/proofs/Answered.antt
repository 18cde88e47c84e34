-- How a post is answered whose outcome is known.
use Rattle.std.proofs.Common.{◌≡◌, subst, sym}
use Rattle.http_server.specs.declared.response.Response.{Response}
use Rattle.otlp_receiver.specs.Denials.{IsDenial, IsSuccess}
use Rattle.otlp_receiver.specs.declared.reply.denial.Denial.TheVariants as denials
use Rattle.otlp_receiver.specs.declared.reply.format.Format.{Format}
use Rattle.otlp_receiver.specs.Posts.{IsAnswer}
use Rattle.relay_service.specs.Receives.{denial_of}
use Rattle.relay_service.specs.declared.receive.Outcome.{Outcome}
use Rattle.relay_service.specs.declared.receive.Outcome.TheVariants as outcomes

module _ (format asked : Format) (outcome : Outcome) (response : Response)
    (is : format ≡ asked) where
  -- A post that is kept is answered that its spans were taken.
  pub kept_answer : outcome ≡ outcomes.Kept → IsSuccess format response
      → IsAnswer (denial_of outcome) asked response
  kept_answer kept answer =
      subst (λ o. IsAnswer (denial_of o) asked response) (sym kept)
      (subst (λ f. IsSuccess f response) is answer)

  -- A post that could not be kept is answered that the keeper failed.
  pub failed_answer : outcome ≡ outcomes.Failed → IsDenial denials.KeepFailed format response
      → IsAnswer (denial_of outcome) asked response
  failed_answer failed answer =
      subst (λ o. IsAnswer (denial_of o) asked response) (sym failed)
      (subst (λ f. IsDenial denials.KeepFailed f response) is answer)
