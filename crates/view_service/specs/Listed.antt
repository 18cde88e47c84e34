-- Which traces are listed.
use Rattle.std.specs.Prelude.{ℕ, ◌-◌, ◌/◌, Bool, false, not, ◌&&◌, ◌||◌, ◌==◌, nat_le, nat_lt}
use Rattle.std.specs.Prelude.{List, Option, Some, None, string_bytes}
use Rattle.std.specs.List.{starts_with}
use Rattle.std.specs.declared.sync.Arc.{Arc}
use Rattle.std.specs.declared.alloc.Global.{Global}
use Rattle.trace_lines.specs.Lists.{has_service}
use Rattle.trace_lines.specs.declared.filter.Filter.{Filter}
use Rattle.view_query.specs.Matching.{finds}
use Rattle.view_service.specs.declared.site_filter.SiteFilter.{SiteFilter}
use Rattle.trace_store.specs.Digests.{TraceFacts}
use Rattle.trace_store.specs.declared.span.ViewSpan.{ViewSpan}

-- A trace with these facts and this root passes the tests of a filter but that of its services: the
-- root's name begins as is asked for, the trace took as long, and has an error if that is asked
-- for.
abbrev pub takes_root : {A : Type 0} → Filter A → TraceFacts (ViewSpan A) → Option (ViewSpan A)
    → Bool
takes_root filter facts None = false
takes_root filter facts (Some root) =
    starts_with (λ a b. a == b) (string_bytes root.span.name) (string_bytes filter.name)
    && nat_le filter.least_ms
    ((facts.end_time_unix_nano - facts.start_time_unix_nano) / 1_000_000)
    && (not filter.errors_only || nat_lt 0 facts.error_count)

-- the trace after which a list begins
abbrev pub begins_after : SiteFilter → Option ℕ
begins_after site = site.after

-- a trace passes each test of a filter, and the search finds it: one of its spans fulfils all terms
abbrev pub takes : SiteFilter → ℕ → TraceFacts (ViewSpan Global)
    → List (Arc (ViewSpan Global) Global) → Bool
takes site trace facts spans =
    takes_root site.filter facts facts.root && has_service site.filter spans
    && finds site.query spans
