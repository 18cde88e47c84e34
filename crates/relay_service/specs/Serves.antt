-- What the service does for a connection.
use Rattle.std.specs.Prelude.{◌≡◌, ◌⊎◌, ℕ, ◌||◌, Bool, true, false, List, Option, Some, None}
use Rattle.http.specs.Request.{head_of}
use Rattle.http.specs.declared.request.Parts.{Parts as Head}
use Rattle.http.specs.declared.request.Request.{Request as HttpRequest}
use Rattle.http_connection.specs.Turns.{Turn, Admitted, Rejected, Answered, Refused}
use Rattle.http_server.specs.declared.response.Response.{Response}
use Rattle.http_uri.specs.Uri.{uri_path}
use Rattle.otlp_receiver.specs.Denials.{IsDenial, IsOptions}
use Rattle.otlp_receiver.specs.Judged.{denial_by, head_denial, may_ask}
use Rattle.otlp_receiver.specs.Requests.{asks_for_methods, denial_format, is_export_of_traces}
use Rattle.otlp_receiver.specs.Requests.{other_signal}
use Rattle.otlp_receiver.specs.Tallies.{CountsAnswer, Tally}
use Rattle.otlp_receiver.specs.declared.reply.denial.Denial.{Denial}
use Rattle.otlp_receiver.specs.declared.reading.Bounds.{Bounds}
use Rattle.otlp_receiver.specs.Posts.{IsAnswer, post_of}
use Rattle.relay_service.specs.Receives.{Collects, Keeping, Lacking, Receives, denial_of}
use Rattle.relay_service.specs.Receives.{is_failure}
use Rattle.relay_service.specs.Shows.{AnswersPage, Naming, Reporting}
use Rattle.relay_service.specs.declared.receive.Outcome.{Outcome}
use Rattle.relay_service.specs.declared.service.NoPieces.{NoPieces}
use Rattle.relay_service.specs.declared.service.RelayService.{RelayService}

module _ {K : Type 0} where
  -- what keeps the bodies of a service
  abbrev pub keeper_of : RelayService K → K
  keeper_of service = service.keeper

  -- the hosts under which it may be asked
  abbrev pub hosts_of : RelayService K → List (List ℕ)
  hosts_of service = service.hosts

  -- what bounds the content of a request
  abbrev pub bounds_of : RelayService K → Bounds
  bounds_of service = service.bounds

  -- what it has counted
  abbrev pub tally_of : RelayService K → Tally
  tally_of service = service.tallies

  -- whether its keeper failed to keep a body
  abbrev pub failed_of : RelayService K → Bool
  failed_of service = service.has_failed

-- A service has given one more answer, with this status, which it counted. Under the same hosts it
-- takes contents within the same bounds.
pub record HasAnswered {K : Type 0} (old new : RelayService K) (status : ℕ) : Type 0 where
  pub counted : CountsAnswer (tally_of old) (tally_of new) status
  pub hosts : hosts_of new ≡ hosts_of old
  pub bounds : bounds_of new ≡ bounds_of old

-- Nothing was answered: only what keeps the bodies has changed, which has collected some, or kept
-- those that it had collected.
pub record IsBeside {K : Type 0} (old new : RelayService K) : Type 0 where
  pub tallies : tally_of new ≡ tally_of old
  pub hosts : hosts_of new ≡ hosts_of old
  pub bounds : bounds_of new ≡ bounds_of old
  pub failed : failed_of new ≡ failed_of old

-- A request was shown, of which what keeps the bodies may have collected the content.
pub record GathersFor {K : Type 0} (collects_body : Keeping K) (old : RelayService K)
    (request : HttpRequest (List ℕ)) (new : RelayService K) : Type 0 where
  pub beside : IsBeside old new
  pub collects : Collects collects_body (keeper_of old) (bounds_of old).max_content
      (post_of request) (keeper_of new)

-- What keeps the bodies may have kept those that it had collected.
pub record SettlesBy {K : Type 0} (keeps_collected : K → K → Type 0) (old new : RelayService K)
    : Type 0 where
  pub beside : IsBeside old new
  pub keeps : (keeper_of new ≡ keeper_of old) ⊎ keeps_collected (keeper_of old) (keeper_of new)

-- what keeps the bodies is as it was, and has failed to if it had before
abbrev pub IsAsBefore : {K : Type 0} → RelayService K → RelayService K → Type 0
IsAsBefore old new = (keeper_of new ≡ keeper_of old) × (failed_of new ≡ failed_of old)

module _ {K : Type 0} (keeps : Keeping K) (lacks_room : Lacking K) (fails : Keeping K)
    (reports : Reporting K) (names : Naming K) where
  -- A whole request is answered, where this many bytes may still be pending: one that asks which
  -- methods there are where spans are received, one to receive spans, one to receive what isn't
  -- taken, or one for a page. Only one to receive spans changes what is kept. Once the keeper has
  -- failed to keep a body, that is remembered.
  pub data Answers (old : RelayService K) (request : HttpRequest (List ℕ)) (room : ℕ)
      (response : Response) (new : RelayService K) : Type 0 where
    options : is_export_of_traces request ≡ true → asks_for_methods request ≡ true
        → IsOptions response → IsAsBefore old new → Answers old request room response new
    received : is_export_of_traces request ≡ true → asks_for_methods request ≡ false
        → (outcome : Outcome)
        → Receives keeps lacks_room fails (keeper_of old) (bounds_of old) (post_of request) room
        outcome (keeper_of new)
        → IsAnswer (denial_of outcome) (denial_format (Some (head_of request))) response
        → failed_of new ≡ (failed_of old || is_failure outcome)
        → Answers old request room response new
    not_taken : is_export_of_traces request ≡ false → (denial : Denial)
        → other_signal (uri_path (head_of request).uri) ≡ Some denial
        → IsDenial denial (denial_format (Some (head_of request))) response
        → IsAsBefore old new → Answers old request room response new
    shown : is_export_of_traces request ≡ false
        → other_signal (uri_path (head_of request).uri) ≡ None
        → AnswersPage reports names (keeper_of old) (failed_of old) (tally_of old).connections
        (head_of request) response
        → IsAsBefore old new → Answers old request room response new

  -- What the service does in a turn: a request that it lets in leaves it as it was, and each answer
  -- is counted.
  abbrev pub Serves : RelayService K → Turn NoPieces → RelayService K → Type 0
  Serves old (Admitted head) new =
      (may_ask (hosts_of old) (head_of head) ≡ true) × (new ≡ old)
  Serves old (Rejected head response) new = (body : Option ℕ) × (room : ℕ) × (denial : Denial)
      × (head_denial (hosts_of old) (head_of head) body room ≡ Some denial)
      × IsDenial denial (denial_format (Some (head_of head))) response
      × HasAnswered old new response.status × IsAsBefore old new
  Serves old (Answered request response rest) new = (room : ℕ)
      × Answers old request room response new × (rest ≡ None)
      × HasAnswered old new response.status
  Serves old (Refused refusal response) new = (head : Option Head)
      × IsDenial (denial_by refusal) (denial_format head) response
      × HasAnswered old new response.status × IsAsBefore old new
