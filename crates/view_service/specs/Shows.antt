-- How what is kept is shown: by the route of a request, its method and whether the trace that it
-- names is kept. (RFC 9110, sections 9.3.1, 9.3.2, 15.5.5 and 15.5.6; which fields: profile)
use Rattle.std.specs.Prelude.{◌≡◌, ◌≢◌, ℕ, Bool, true, false, if◌then◌else◌, List, [], codes}
use Rattle.std.specs.Prelude.{bytes_eq, Option, Some, None}
use Rattle.http.specs.declared.request.Parts.{Parts as Head}
use Rattle.http_server.specs.declared.response.Response.{Response}
use Rattle.http_uri.specs.Uri.{uri_path}
use Rattle.otlp_receiver.specs.Denials.{IsDenial}
use Rattle.otlp_receiver.specs.Pages.{IsPage, is_read}
use Rattle.otlp_receiver.specs.Requests.{denial_format}
use Rattle.otlp_receiver.specs.declared.reply.denial.Denial.{Denial}
use Rattle.otlp_receiver.specs.declared.reply.denial.Denial.TheVariants as denials
use Rattle.otlp_receiver.specs.declared.reply.format.Format.{Format}
use Rattle.otlp_receiver.specs.declared.reply.format.Format.TheVariants as formats
use Rattle.view_service.specs.Routes.{Names}
use Rattle.view_service.specs.declared.pages.TraceForm.{TraceForm}
use Rattle.view_service.specs.declared.pages.TraceForm.TheVariants as forms
use Rattle.view_service.specs.declared.route.Route.{Route}
use Rattle.view_service.specs.declared.route.Route.TheVariants as routes
use Rattle.view_service.specs.declared.show.Shown.{Shown}
use Rattle.view_service.specs.declared.show.Shown.TheVariants as outcomes
use Rattle.trace_store.specs.Keys.{trace_key}

-- what a page is written in
abbrev pub format_of : Route → Format
format_of routes.Style = formats.Css
format_of routes.Script = formats.JavaScript
format_of (routes.TraceText trace) = formats.Text
format_of routes.Health = formats.Text
format_of routes.Metrics = formats.Prometheus
format_of routes.ApiTraces = formats.Json
format_of (routes.ApiTrace trace) = formats.Json
format_of routes.ApiStats = formats.Json
format_of _ = formats.Html

-- it may be that nothing is there
abbrev pub may_be_missing : Route → Bool
may_be_missing (routes.Trace trace) = true
may_be_missing (routes.TraceText trace) = true
may_be_missing (routes.ApiTrace trace) = true
may_be_missing routes.Unknown = true
may_be_missing _ = false

-- the query says which traces are listed
abbrev pub has_query : Route → Bool
has_query routes.List = true
has_query routes.ApiTraces = true
has_query _ = false

-- what may become of a page: only a list has a query that may be bad
abbrev pub FitsRoute : Route → Shown → Type 0
FitsRoute route outcomes.Page = route ≢ routes.Unknown
FitsRoute route outcomes.BadQuery = has_query route ≡ true
FitsRoute route outcomes.Missing = may_be_missing route ≡ true

abbrev pub status_of : Shown → ℕ
status_of outcomes.Page = 200
status_of outcomes.BadQuery = 400
status_of outcomes.Missing = 404

-- what is said in place of what is missing is a page of HTML
abbrev pub format_as : Shown → Route → Format
format_as outcomes.Page route = format_of route
format_as outcomes.BadQuery route = format_of route
format_as outcomes.Missing route = formats.Html

-- how the route of a trace shows it
abbrev pub form_of : Route → TraceForm
form_of (routes.TraceText trace) = forms.Text
form_of (routes.ApiTrace trace) = forms.Json
form_of _ = forms.Page

-- What a keeper may lend of the trace with a number: its spans, or nothing.
abbrev pub Lending : Type 0 → Type 0 → Type 1
Lending K S = K → ℕ → Option (List S) → Type 0

-- A trace with these spans is shown so in this form.
abbrev pub Drawing : Type 0 → Type 0 → Type 1
Drawing P S = P → TraceForm → ℕ → List S → List ℕ → Type 0

-- What writes the rest of an answer may still write these bytes, all in all.
abbrev pub Writing : Type 0 → Type 1
Writing R = R → List ℕ → Type 0

-- Why a request for a page is refused, where it is: by its method, where pages don't have it, or as
-- a post to a path where nothing is.
abbrev pub page_denial : Route → List ℕ → Option Denial
page_denial routes.Unknown method =
    if bytes_eq method (codes "POST") then Some denials.NoPath else None
page_denial route method = if is_read method then None else Some denials.PageMethod

module _ {K P R S : Type 0} (lends : Lending K S) (draws : Drawing P S) (writes : Writing R)
    (keeper : K) (pages : P) where
  -- A trace is shown where the keeper lends its spans: all that it lends, and no others. Whatever
  -- is written of it is that. It is missing where the keeper lends nothing.
  abbrev pub ShowsTrace : TraceForm → ℕ → Shown → List ℕ → Option R → Type 0
  ShowsTrace form trace outcomes.Page body (Some rest) =
      (spans : List S) × lends keeper trace (Some spans) × (body ≡ [])
      × ((bytes : List ℕ) → writes rest bytes → draws pages form trace spans bytes)
  ShowsTrace form trace outcomes.Page body None = ⊥
  ShowsTrace form trace outcomes.BadQuery body rest = ⊥
  ShowsTrace form trace outcomes.Missing body rest = lends keeper trace None × (rest ≡ None)

  -- The same, where the route is that of a trace. Any other page is whole.
  abbrev pub ShowsRoute : Route → Shown → List ℕ → Option R → Type 0
  ShowsRoute (routes.Trace trace) = ShowsTrace forms.Page (trace_key trace.0)
  ShowsRoute (routes.TraceText trace) = ShowsTrace forms.Text (trace_key trace.0)
  ShowsRoute (routes.ApiTrace trace) = ShowsTrace forms.Json (trace_key trace.0)
  ShowsRoute _ = λ _ _ rest. rest ≡ None

  -- A page is shown; or its query can't be read, or what it shows isn't there, which a page says.
  pub record Shows (route : Route) (response : Response) (rest : Option R) : Type 0 where
    pub became : Shown
    pub fits : FitsRoute route became
    pub body : List ℕ
    pub is : IsPage (status_of became) (format_as became route) body response
    pub shows : ShowsRoute route became body rest

  -- A request is answered with what its path names, or it is refused by its method.
  pub data AnswersPage (head : Head) (response : Response) (rest : Option R) : Type 0 where
    refused : (route : Route) (denial : Denial) → Names (uri_path head.uri) route
        → page_denial route head.method ≡ Some denial
        → IsDenial denial (denial_format (Some head)) response → rest ≡ None
        → AnswersPage head response rest
    shown : (route : Route) → Names (uri_path head.uri) route
        → page_denial route head.method ≡ None → Shows route response rest
        → AnswersPage head response rest
