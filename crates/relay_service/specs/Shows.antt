-- What a service shows of what became of what it received. (RFC 9110, sections 9.3.1, 15.5.5,
-- 15.5.6 and 15.6.4; which paths: profile)
use Rattle.std.specs.Prelude.{◌≡◌, ℕ, ◌∷◌, ◌||◌, Bool, true, false, if◌then◌else◌, List, [], codes}
use Rattle.std.specs.Prelude.{nat_lt}
use Rattle.std.specs.Prelude.{bytes_eq, ◌++◌, Option, Some, None}
use Rattle.http.specs.declared.request.Parts.{Parts as Head}
use Rattle.http_server.specs.declared.response.Response.{Response}
use Rattle.http_uri.specs.Uri.{uri_path}
use Rattle.json.specs.Lex.{tokens}
use Rattle.otlp_receiver.specs.Denials.{IsDenial}
use Rattle.otlp_receiver.specs.Pages.{IsPage, is_read}
use Rattle.otlp_receiver.specs.Requests.{denial_format}
use Rattle.otlp_receiver.specs.declared.reply.denial.Denial.TheVariants as denials
use Rattle.otlp_receiver.specs.declared.reply.format.Format.TheVariants as formats
use Rattle.model_body.specs.Names.{LostSpan as LostName}
use Rattle.relay_service.specs.Lost.{list_tokens}
use Rattle.relay_service.specs.Stats.{metrics_text, stats_tokens}
use Rattle.relay_service.specs.declared.route.Page.{Page}
use Rattle.relay_service.specs.declared.route.Page.TheVariants as pages
use Rattle.relay_queue.specs.declared.report.Report.{Report}

-- what a path names
unfoldable pub page_of : List ℕ → Option Page
page_of path =
    if bytes_eq path (codes "/healthz") then Some pages.Health
    else if bytes_eq path (codes "/metrics") then Some pages.Metrics
    else if bytes_eq path (codes "/api/stats") then Some pages.Stats
    else if bytes_eq path (codes "/api/lost") then Some pages.Lost
    else None

-- Whether the service is well, by whether what keeps traces failed, and whether the collector
-- refuses whatever it is sent: the status, and the words of a line.
abbrev pub health_code : Bool → Bool → ℕ
health_code has_failed refuses = if has_failed then 503 else if refuses then 503 else 200

abbrev pub health_words : Bool → Bool → List ℕ
health_words has_failed refuses =
    if has_failed then codes "what keeps traces has failed"
    else if refuses then codes "the collector refuses whatever it is sent"
    else codes "ok"

abbrev pub refuses : Report → Bool
refuses report = nat_lt 0 report.refusals

-- so many lost spans are listed at most
abbrev pub MOST_LISTED : ℕ
MOST_LISTED = 1_000

-- What may be reported of a keeper, and which spans it may name as lost, at most so many.
abbrev pub Reporting : Type 0 → Type 1
Reporting K = K → Report → Type 0

abbrev pub Naming : Type 0 → Type 1
Naming K = K → ℕ → List LostName → Type 0

module _ {K : Type 0} (reports : Reporting K) (names : Naming K) (keeper : K) (has_failed : Bool)
    (connections : ℕ) where
  -- A page shows what the keeper reports, or the lost spans that it names.
  abbrev pub ShowsPage : Page → Response → Type 0
  ShowsPage pages.Health response = (report : Report) × reports keeper report
      × IsPage (health_code (has_failed || report.has_failed) (refuses report)) formats.Text
      (health_words (has_failed || report.has_failed) (refuses report) ++ 10 ∷ []) response
  ShowsPage pages.Metrics response = (report : Report) × reports keeper report
      × IsPage 200 formats.Prometheus (metrics_text report connections) response
  ShowsPage pages.Stats response = (report : Report) × (body : List ℕ) × reports keeper report
      × (tokens body ≡ stats_tokens report) × IsPage 200 formats.Json body response
  ShowsPage pages.Lost response = (spans : List LostName) × (body : List ℕ)
      × names keeper MOST_LISTED spans
      × (tokens body ≡ list_tokens spans) × IsPage 200 formats.Json body response

  -- A request is answered with what its path names, or it is refused: nothing is there, or pages
  -- don't have its method.
  pub data AnswersPage (head : Head) (response : Response) : Type 0 where
    no_path : page_of (uri_path head.uri) ≡ None
        → IsDenial denials.NoPath (denial_format (Some head)) response
        → AnswersPage head response
    no_method : (page : Page) → page_of (uri_path head.uri) ≡ Some page
        → is_read head.method ≡ false
        → IsDenial denials.PageMethod (denial_format (Some head)) response
        → AnswersPage head response
    shown : (page : Page) → page_of (uri_path head.uri) ≡ Some page
        → is_read head.method ≡ true → ShowsPage page response → AnswersPage head response
