-- What is shown of a trace: each form has all spans that were lent, and no others.
use Rattle.std.specs.Prelude.{◌≡◌, ℕ, List}
use Rattle.std.specs.declared.sync.Arc.{Arc}
use Rattle.json.specs.Lex.{tokens}
use Rattle.trace_lines.specs.Texts.{DrawsText, StillWrites as StillWritesText}
use Rattle.view_json.specs.Pieces.{StillWrites}
use Rattle.otlp_json.specs.Seen.{seen}
use Rattle.view_json.specs.Spans.{trace_seen}
use Rattle.view_pages.specs.Pages.{DrawsPage}
use Rattle.view_pages.specs.Pieces.{StillWrites as StillWritesPage}
use Rattle.view_service.specs.declared.pages.TraceForm.{TraceForm}
use Rattle.view_service.specs.declared.pages.TraceForm.TheVariants as forms
use Rattle.view_service.specs.declared.page.SitePage.{SitePage}
use Rattle.view_service.specs.declared.page.SitePage.TheVariants as pages
use Rattle.trace_store.specs.declared.span.ViewSpan.{ViewSpan}

-- OTLP's JSON, by what a reader finds in it
abbrev pub DrawsJson : {A : Type 0} → List (Arc (ViewSpan A) A) → List ℕ → Type 0
DrawsJson spans page = seen (tokens page) ≡ trace_seen spans

-- a trace with these spans, in this form
abbrev pub Draws : {A : Type 0} → TraceForm → ℕ → List (Arc (ViewSpan A) A) → List ℕ → Type 0
Draws forms.Page trace spans page = DrawsPage trace spans page
Draws forms.Text trace spans page = DrawsText spans page
Draws forms.Json trace spans page = DrawsJson spans page

-- what a page may still write
abbrev pub SiteWrites : SitePage → List ℕ → Type 0
SiteWrites (pages.Page page) bytes = StillWritesPage page bytes
SiteWrites (pages.Text text) bytes = StillWritesText text bytes
SiteWrites (pages.Json json) bytes = StillWrites json bytes
