-- The list of traces.
use Rattle.std.specs.Prelude.{ℕ, ◌-◌, ◌/◌, ◌%◌, ◌==◌, nat_lt, Bool, if◌then◌else◌, List, length}
use Rattle.std.specs.Prelude.{codes, string_bytes, slice_get, Option, Some, None}
use Rattle.std.specs.Fmt.{take_chars}
use Rattle.std.specs.Int.{w128, to_be_bytes}
use Rattle.trace_lines.specs.Lists.{duration_of}
use Rattle.trace_lines.specs.declared.filter.Filter.{Filter}
use Rattle.trace_lines.specs.declared.summary.Summary.{Summary}
use Rattle.view_pages.specs.Dates.{second_html, three_html}
use Rattle.view_pages.specs.Html.{Html, Nothing, Markup, Text, Number, Digits, ◌▹◌, each}
use Rattle.view_pages.specs.Html.{markup_if, text_after}
use Rattle.view_pages.specs.Pages.{start_html}
use Rattle.view_pages.specs.Times.{duration}

-- ---- the rows

-- a text of the list: its first 120 characters, and a mark where it has more (profile)
unfoldable pub short_html : List ℕ → Html
short_html text =
    Text (take_chars 120 text)
    ▹ markup_if (nat_lt (length (take_chars 120 text)) (length text)) (codes "&hellip;")

-- the name of a root
unfoldable pub root_html : List ℕ → Html
root_html name =
    if length name == 0 then Markup (codes "<i>(no name)</i>") else short_html name

-- the query of a link, with what comes before it
abbrev pub query_html : List ℕ → Html
query_html query = text_after (codes "?") query

-- the name of a trace, which leads to its page
unfoldable pub name_html : List ℕ → Summary → Html
name_html query s =
    Markup (codes "<tr><td><a href='/trace/") ▹ Digits (to_be_bytes w128 s.trace)
    ▹ query_html query ▹ Markup (codes "'>") ▹ root_html s.name.now ▹ Markup (codes "</a>")

-- its service, its spans and its errors
unfoldable pub sizes_html : Summary → Html
sizes_html s =
    Markup (codes "<td>") ▹ short_html s.service.now ▹ Markup (codes "<td>") ▹ Number s.span_count
    ▹ Markup (codes "<td>") ▹ Number s.error_count

-- how long it took and when it began
unfoldable pub when_html : Summary → Html
when_html s =
    Markup (codes "<td>") ▹ duration (duration_of s) ▹ Markup (codes "<td>")
    ▹ second_html s.start_time_unix_nano

-- the row of a trace, whose link has this query
unfoldable pub summary_html : List ℕ → Summary → Html
summary_html query s = name_html query s ▹ sizes_html s ▹ when_html s

-- ---- the form of the filter

-- the boxes of the filter
unfoldable pub texts_html : {A : Type 0} → Filter A → Html
texts_html filter =
    Markup (codes "<form><label class='search'>Search<input name='q' value='")
    ▹ Text (string_bytes filter.search)
    ▹ Markup (codes "' placeholder='service=shop duration&gt;100ms -root'></label>")
    ▹ Markup (codes "<label>Service<input name='service' value='")
    ▹ Text (string_bytes filter.service)
    ▹ Markup (codes "'></label><label>Name begins with<input name='name' value='")
    ▹ Text (string_bytes filter.name)
    ▹ Markup (codes "'></label><label>At least, in ms<input name='least' value='")

-- the form of the filter
unfoldable pub form_html : {A : Type 0} → Filter A → Html
form_html filter =
    texts_html filter ▹ Number filter.least_ms
    ▹ Markup (codes "'></label><label>Errors only<input type='checkbox' name='errors' value='1'")
    ▹ markup_if filter.errors_only (codes " checked")
    ▹ Markup (codes "></label><button>Show</button></form>")

-- ---- how many traces there are

-- a number of at most six digits in groups of three, and a greater one
unfoldable pub thousands : ℕ → Html
thousands n = Number (n / 1_000) ▹ Markup (codes ",") ▹ three_html (n % 1_000)

unfoldable pub millions : ℕ → Html
millions n =
    Number (n / 1_000_000) ▹ Markup (codes ",") ▹ three_html (n / 1_000 % 1_000)
    ▹ Markup (codes ",") ▹ three_html (n % 1_000)

-- a number in groups of three digits; the first group may have more than three
unfoldable pub grouped : ℕ → Html
grouped n =
    if nat_lt n 1_000 then Number n
    else (if nat_lt n 1_000_000 then thousands n else millions n)

-- the address at which traces are taken: its path alone where the host isn't known
abbrev pub address_html : List ℕ → Html
address_html host = text_after (codes "http://") host

-- the settings by which an SDK posts its traces here, and nothing else
unfoldable pub settings_html : List ℕ → Html
settings_html host =
    Markup (codes "<pre>OTEL_EXPORTER_OTLP_ENDPOINT=") ▹ address_html host
    ▹ Markup (codes "\nOTEL_EXPORTER_OTLP_PROTOCOL=http/protobuf")
    ▹ Markup (codes "\nOTEL_METRICS_EXPORTER=none\nOTEL_LOGS_EXPORTER=none</pre>")

-- where traces are to be sent, since none is here
unfoldable pub empty_html : List ℕ → Html
empty_html host =
    Markup (codes "<p>No trace is here yet. Post traces to <code>") ▹ address_html host
    ▹ Markup (codes "/v1/traces</code>. An SDK does, set so:</p>") ▹ settings_html host

-- that none of so many traces is in the list
unfoldable pub none_html : ℕ → Html
none_html total =
    Markup (codes "<p>Nothing matches. Traces that are kept: ") ▹ grouped total
    ▹ Markup (codes ". <a href='/'>Show all</a></p>")

-- that some of so many traces are in the list
unfoldable pub some_html : ℕ → ℕ → Html
some_html shown total =
    Markup (codes "<p>Showing ") ▹ grouped shown ▹ Markup (codes " of ") ▹ grouped total
    ▹ Markup (codes "</p>")

-- what is said of a list that has so many of the traces that are kept
unfoldable pub shown_html : List ℕ → ℕ → ℕ → Html
shown_html host shown total =
    if total == 0 then empty_html host
    else (if shown == 0 then none_html total
    else (if nat_lt shown total then some_html shown total else Nothing))

-- ---- the traces after those of the list

-- hidden fields with what a filter asks for
unfoldable pub hidden_html : {A : Type 0} → Filter A → Html
hidden_html filter =
    Markup (codes "<input type='hidden' name='q' value='") ▹ Text (string_bytes filter.search)
    ▹ Markup (codes "'><input type='hidden' name='service' value='")
    ▹ Text (string_bytes filter.service)
    ▹ Markup (codes "'><input type='hidden' name='name' value='") ▹ Text (string_bytes filter.name)
    ▹ Markup (codes "'><input type='hidden' name='least' value='") ▹ Number filter.least_ms
    ▹ markup_if filter.errors_only (codes "'><input type='hidden' name='errors' value='1")

-- a button that shows the traces after this one
unfoldable pub after_html : {A : Type 0} → Filter A → Summary → Html
after_html filter last =
    Markup (codes "<form class='more'>") ▹ hidden_html filter
    ▹ Markup (codes "'><input type='hidden' name='after' value='")
    ▹ Digits (to_be_bytes w128 last.trace)
    ▹ Markup (codes "'><button>Older traces</button></form>")

-- one that shows those after the last of these, if there is a last one
abbrev pub after_last : {A : Type 0} → Filter A → Option Summary → Html
after_last filter None = Nothing
after_last filter (Some last) = after_html filter last

-- and where there are more
unfoldable pub more_html : {A : Type 0} → Filter A → List Summary → Bool → Html
more_html filter summaries has_more =
    if has_more then after_last filter (slice_get summaries (length summaries - 1)) else Nothing

-- ---- the page

-- what is above the rows
unfoldable pub list_head_html : {A : Type 0} → Filter A → Html
list_head_html filter =
    start_html ▹ Markup (codes "Traces</title><header><h1>Traces</h1>") ▹ form_html filter

-- the rows, one below the other
unfoldable pub table_html : List ℕ → List Summary → Html
table_html query summaries =
    Markup (codes "</header><main><table><tr><th>Name<th>Service<th>Spans<th>Errors")
    ▹ Markup (codes "<th>Duration<th>Start (UTC)") ▹ each (summary_html query) summaries
    ▹ Markup (codes "</table></main>")

-- which version made the page
unfoldable pub foot_html : List ℕ → Html
foot_html version =
    Markup (codes "<footer>Dulhafrin ") ▹ Text version ▹ Markup (codes "</footer></html>")

-- the page of this version: a row for each of these, in this order, and a way to those after them
unfoldable pub list_html : {A : Type 0}
    → List ℕ → Filter A → List ℕ → List ℕ → List Summary → ℕ → Bool → Html
list_html version filter query host summaries total has_more =
    list_head_html filter ▹ shown_html host (length summaries) total ▹ table_html query summaries
    ▹ more_html filter summaries has_more ▹ foot_html version

-- the page where what is searched for can't be read from a place on: what was typed is in the form
unfoldable pub mistake_html : {A : Type 0} → List ℕ → Filter A → ℕ → List ℕ → Html
mistake_html version filter at why =
    list_head_html filter
    ▹ Markup (codes "<p class='mistake' role='alert'>The search can't be read from byte ")
    ▹ Number at ▹ Markup (codes " on: ") ▹ Text why ▹ Markup (codes "</p></header>")
    ▹ foot_html version

-- the page that says why there is no other
unfoldable pub notice_html : List ℕ → List ℕ → List ℕ → Html
notice_html query title advice =
    start_html ▹ Text title ▹ Markup (codes "</title><header><a href='/") ▹ query_html query
    ▹ Markup (codes "'>All traces</a><h1>") ▹ Text title ▹ Markup (codes "</h1><p>") ▹ Text advice
    ▹ Markup (codes "</p></header></html>")
