-- What is answered says nothing of what was counted besides.
use Rattle.std.proofs.Common.{◌≡◌, ◌∙◌, ℕ, Bool, List, subst, sym}
use Rattle.http.specs.declared.request.Parts.{Parts as Head}
use Rattle.http.specs.declared.request.Request.{Request as HttpRequest}
use Rattle.http_server.specs.declared.response.Response.{Response}
use Rattle.otlp_receiver.specs.Posts.{post_of}
use Rattle.relay_service.specs.Receives.{Keeping, Lacking, Receives}
use Rattle.relay_service.specs.Serves.{Answers, bounds_of, failed_of, keeper_of}
use Rattle.relay_service.specs.Shows.{AnswersPage, Naming, Reporting}
use Rattle.relay_service.specs.declared.service.RelayService.{RelayService}

-- A page that shows so many connections, under another name of their number.
pub shown_with : {K : Type 0} (reports : Reporting K) (names : Naming K) (keeper : K)
    (has_failed : Bool) (shown connections : ℕ) (head : Head) (response : Response)
    → shown ≡ connections
    → AnswersPage reports names keeper has_failed shown head response
    → AnswersPage reports names keeper has_failed connections head response
shown_with reports names keeper has_failed shown connections head response is page =
    subst (λ n. AnswersPage reports names keeper has_failed n head response) is page

module _ {K : Type 0} (keeps : Keeping K) (lacks_room : Lacking K) (fails : Keeping K)
    (reports : Reporting K) (names : Naming K) (old : RelayService K)
    (request : HttpRequest (List ℕ)) (room : ℕ) (response : Response) (new later : RelayService K)
    (keeper : keeper_of later ≡ keeper_of new) (failed : failed_of later ≡ failed_of new) where
  -- A request is answered, whatever the service counts after it.
  pub still_answered : Answers keeps lacks_room fails reports names old request room response new
      → Answers keeps lacks_room fails reports names old request room response later
  still_answered (Answers.options path method options same) =
      Answers.options path method options (keeper ∙ same.0, failed ∙ same.1)
  still_answered (Answers.received path method outcome receives answer fails_by) =
      Answers.received path method outcome
      (subst (Receives keeps lacks_room fails (keeper_of old) (bounds_of old) (post_of request)
      room outcome)
      (sym keeper) receives)
      answer (failed ∙ fails_by)
  still_answered (Answers.not_taken path denial other answer same) =
      Answers.not_taken path denial other answer (keeper ∙ same.0, failed ∙ same.1)
  still_answered (Answers.shown path other page same) =
      Answers.shown path other page (keeper ∙ same.0, failed ∙ same.1)
