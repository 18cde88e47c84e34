-- What the service does for a connection.
use Rattle.std.specs.Prelude.{◌≡◌, ℕ, true, false, List, Option, Some, None}
use Rattle.http.specs.Request.{head_of}
use Rattle.http.specs.declared.request.Parts.{Parts as Head}
use Rattle.http.specs.declared.request.Request.{Request as HttpRequest}
use Rattle.http_connection.specs.Turns.{Turn, Admitted, Rejected, Answered, Refused}
use Rattle.http_server.specs.declared.response.Response.{Response}
use Rattle.http_uri.specs.Uri.{uri_path}
use Rattle.otlp_receiver.specs.Denials.{IsDenial, IsOptions}
use Rattle.otlp_receiver.specs.Judged.{denial_by, head_denial, may_ask}
use Rattle.otlp_receiver.specs.Requests.{asks_for_methods, denial_format, is_export_of_traces}
use Rattle.otlp_receiver.specs.Requests.{other_signal}
use Rattle.otlp_receiver.specs.Tallies.{CountsAnswer, Tally}
use Rattle.otlp_receiver.specs.declared.reply.denial.Denial.{Denial}
use Rattle.otlp_receiver.specs.declared.reading.Bounds.{Bounds}
use Rattle.view_service.specs.Receives.{AnswersExport, Giving, Keeping, Lacking}
use Rattle.view_service.specs.Shows.{AnswersPage, Drawing, Lending, Writing}
use Rattle.view_service.specs.declared.service.ViewService.{ViewService}

module _ {K P : Type 0} where
  -- what keeps the spans of a service
  abbrev pub keeper_of : ViewService K P → K
  keeper_of service = service.keeper

  -- what writes its pages
  abbrev pub pages_of : ViewService K P → P
  pages_of service = service.pages

  -- the hosts under which it may be asked
  abbrev pub hosts_of : ViewService K P → List (List ℕ)
  hosts_of service = service.hosts

  -- what bounds the content of a request
  abbrev pub bounds_of : ViewService K P → Bounds
  bounds_of service = service.bounds

  -- what it has counted
  abbrev pub tally_of : ViewService K P → Tally
  tally_of service = service.tallies

-- A service has given one more answer, with this status, which it counted. Under the same hosts it
-- shows the same pages, and takes contents within the same bounds.
pub record HasAnswered {K P : Type 0} (old new : ViewService K P) (status : ℕ) : Type 0 where
  pub counted : CountsAnswer (tally_of old) (tally_of new) status
  pub hosts : hosts_of new ≡ hosts_of old
  pub pages : pages_of new ≡ pages_of old
  pub bounds : bounds_of new ≡ bounds_of old

module _ {A K P R S : Type 0} (keeps : Keeping A K) (lacks_room : Lacking A K)
    (gives_up : Giving K) (lends : Lending K S) (draws : Drawing P S) (writes : Writing R) where
  -- A whole request is answered, where this many bytes may still be pending: one that asks which
  -- methods there are where spans are received, one to receive spans, one to receive what isn't
  -- taken, or one for a page. Only one to receive spans changes what is kept.
  pub data Answers (old : ViewService K P) (request : HttpRequest (List ℕ)) (room : ℕ)
      (response : Response) (rest : Option R) (new : K) : Type 0 where
    options : is_export_of_traces request ≡ true → asks_for_methods request ≡ true
        → IsOptions response → rest ≡ None → new ≡ keeper_of old
        → Answers old request room response rest new
    received : is_export_of_traces request ≡ true → asks_for_methods request ≡ false
        → AnswersExport keeps lacks_room gives_up (keeper_of old) request (bounds_of old) room
        response new
        → rest ≡ None → Answers old request room response rest new
    not_taken : is_export_of_traces request ≡ false → (denial : Denial)
        → other_signal (uri_path (head_of request).uri) ≡ Some denial
        → IsDenial denial (denial_format (Some (head_of request))) response
        → rest ≡ None → new ≡ keeper_of old → Answers old request room response rest new
    shown : is_export_of_traces request ≡ false
        → other_signal (uri_path (head_of request).uri) ≡ None
        → AnswersPage lends draws writes (keeper_of old) (pages_of old) (head_of request) response
        rest → new ≡ keeper_of old → Answers old request room response rest new

  -- What the service does in a turn: a request that it lets in leaves it as it was, and each answer
  -- is counted.
  abbrev pub Serves : ViewService K P → Turn R → ViewService K P → Type 0
  Serves old (Admitted head) new =
      (may_ask (hosts_of old) (head_of head) ≡ true) × (new ≡ old)
  Serves old (Rejected head response) new = (body : Option ℕ) × (room : ℕ) × (denial : Denial)
      × (head_denial (hosts_of old) (head_of head) body room ≡ Some denial)
      × IsDenial denial (denial_format (Some (head_of head))) response
      × HasAnswered old new response.status × (keeper_of new ≡ keeper_of old)
  Serves old (Answered request response rest) new = (room : ℕ)
      × Answers old request room response rest (keeper_of new) × HasAnswered old new response.status
  Serves old (Refused refusal response) new = (head : Option Head)
      × IsDenial (denial_by refusal) (denial_format head) response
      × HasAnswered old new response.status × (keeper_of new ≡ keeper_of old)
