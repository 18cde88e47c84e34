-- What the panel of a span says.
use Rattle.std.specs.Prelude.{ℕ, ◌-◌, ◌==◌, nat_lt, if◌then◌else◌, ℤ, pos, negsuc, List}
use Rattle.std.specs.Prelude.{String, codes, string_bytes}
use Rattle.std.specs.Arc.{arc_value}
use Rattle.std.specs.Int.{w32, to_be_bytes}
use Rattle.otlp_read.specs.declared.any_value.AnyValue.{AnyValue as Received}
use Rattle.otlp_read.specs.declared.span.Event.{Event}
use Rattle.otlp_read.specs.declared.span.Link.{Link}
use Rattle.otlp_read.specs.declared.span.Span.{Span}
use Rattle.trace_tree.specs.declared.span.Place.{Place}
use Rattle.trace_tree.specs.declared.span.Place.TheVariants.{Root, Child, Orphan, Cycle}
use Rattle.trace_store.specs.declared.span.ViewResource.{ViewResource}
use Rattle.trace_store.specs.declared.span.ViewScope.{ViewScope}
use Rattle.trace_store.specs.declared.span.ViewSpan.{ViewSpan}
use Rattle.view_pages.specs.Dates.{moment_html}
use Rattle.view_pages.specs.Html.{Html, Nothing, Markup, Text, Number, Signed, Digits, ◌▹◌, each}
use Rattle.view_pages.specs.Html.{text_after}
use Rattle.view_pages.specs.Times.{duration}
use Rattle.view_pages.specs.Values.{pair_html}

-- how many parts the sender dropped, unless it is none
unfoldable pub dropped_html : ℕ → Html
dropped_html count =
    if count == 0 then Nothing
    else Markup (codes " <em>") ▹ Number count ▹ Markup (codes " dropped</em>")

-- attributes
abbrev pub list_html : {A : Type 0} → List (String A × Received A) → Html
list_html pairs = Markup (codes "<dl>") ▹ each pair_html pairs ▹ Markup (codes "</dl>")

-- attributes under their heading
unfoldable pub attributes_html : {A : Type 0} → List ℕ → List (String A × Received A) → ℕ → Html
attributes_html title pairs dropped =
    Markup (codes "<h4>") ▹ Markup title ▹ dropped_html dropped ▹ Markup (codes "</h4>")
    ▹ list_html pairs

-- how long after the start of its span a time is, or before
unfoldable pub offset_html : ℕ → ℕ → Html
offset_html start time =
    if nat_lt time start then Markup (codes "-") ▹ duration (start - time)
    else Markup (codes "+") ▹ duration (time - start)

-- the name of an event, and when it was
unfoldable pub event_name_html : {A : Type 0} → ℕ → Event A → Html
event_name_html start event =
    Markup (codes "<h5>") ▹ Text (string_bytes event.name) ▹ Markup (codes " <small>")
    ▹ offset_html start event.time_unix_nano ▹ Markup (codes "</small>")

-- an event, with when it was, and its attributes (opentelemetry-proto, trace.proto: Span.Event)
unfoldable pub event_html : {A : Type 0} → ℕ → Event A → Html
event_html start event =
    event_name_html start event ▹ dropped_html event.dropped_attributes_count
    ▹ Markup (codes "</h5>")
    ▹ list_html event.attributes.items

unfoldable pub events_html : {A : Type 0} → Span A → Html
events_html span =
    Markup (codes "<h4>Events") ▹ dropped_html span.dropped_events_count ▹ Markup (codes "</h4>")
    ▹ each (event_html span.start_time_unix_nano) span.events.items

-- the identifiers of a trace and a span
unfoldable pub both_html : List ℕ → List ℕ → Html
both_html trace span = Digits trace ▹ Markup (codes " ") ▹ Digits span

-- where a span is shown: on the page of its trace, at its row
unfoldable pub place_html : List ℕ → List ℕ → Html
place_html trace span =
    Markup (codes "<a href='/trace/") ▹ Digits trace ▹ Markup (codes "#s-") ▹ Digits span
    ▹ Markup (codes "'>") ▹ both_html trace span ▹ Markup (codes "</a>")

-- flags, by eight hexadecimal digits
abbrev pub flags_html : ℕ → Html
flags_html flags = Digits (to_be_bytes w32 flags)

-- a trace state, unless it is empty
abbrev pub trace_state_html : List ℕ → Html
trace_state_html state = text_after (codes "<dt>trace state<dd>") state

-- the trace state and the flags of a span or a link
unfoldable pub context_html : List ℕ → ℕ → Html
context_html state flags =
    trace_state_html state ▹ Markup (codes "<dt>flags<dd>") ▹ flags_html flags
    ▹ Markup (codes "</dl>")

-- a link, and its attributes (trace.proto: Span.Link)
unfoldable pub link_html : {A : Type 0} → Link A → Html
link_html link =
    Markup (codes "<h5>") ▹ place_html link.trace_id.items link.span_id.items
    ▹ dropped_html link.dropped_attributes_count ▹ Markup (codes "</h5><dl>")
    ▹ context_html (string_bytes link.trace_state) link.flags
    ▹ list_html link.attributes.items

unfoldable pub links_html : {A : Type 0} → Span A → Html
links_html span =
    Markup (codes "<h4>Links") ▹ dropped_html span.dropped_links_count ▹ Markup (codes "</h4>")
    ▹ each link_html span.links.items

-- a schema URL
unfoldable pub url_html : List ℕ → Html
url_html url = Markup (codes "<p>") ▹ Text url ▹ Markup (codes "</p>")

-- the resource that made a span (resource.proto: Resource)
unfoldable pub resource_html : {A : Type 0} → ViewResource A → Html
resource_html r =
    attributes_html (codes "Resource") r.resource.attributes.items
    r.resource.dropped_attributes_count
    ▹ url_html (string_bytes r.schema_url)

-- the name and the version of a scope
unfoldable pub version_html : List ℕ → List ℕ → Html
version_html name version =
    Markup (codes "<p>") ▹ Text name ▹ Markup (codes " ") ▹ Text version ▹ Markup (codes "</p>")

-- the scope that made it (common.proto: InstrumentationScope)
unfoldable pub scope_html : {A : Type 0} → ViewScope A → Html
scope_html s =
    attributes_html (codes "Scope") s.scope.attributes.items s.scope.dropped_attributes_count
    ▹ version_html (string_bytes s.scope.name) (string_bytes s.scope.version)
    ▹ url_html (string_bytes s.schema_url)

-- the kind of a span (trace.proto: SpanKind)
abbrev pub kind_name : ℕ → Html
kind_name n =
    if n == 0 then Markup (codes "unspecified")
    else (if n == 1 then Markup (codes "internal")
    else (if n == 2 then Markup (codes "server")
    else (if n == 3 then Markup (codes "client")
    else (if n == 4 then Markup (codes "producer")
    else (if n == 5 then Markup (codes "consumer")
    else Signed (pos n))))))

unfoldable pub kind_html : ℤ → Html
kind_html (pos n) = kind_name n
kind_html (negsuc n) = Signed (negsuc n)

-- the code of a status (trace.proto: Status.StatusCode)
abbrev pub status_name : ℕ → Html
status_name n =
    if n == 0 then Markup (codes "unset")
    else (if n == 1 then Markup (codes "ok")
    else (if n == 2 then Markup (codes "error")
    else Signed (pos n)))

unfoldable pub status_html : ℤ → Html
status_html (pos n) = status_name n
status_html (negsuc n) = Signed (negsuc n)

-- the identifier of a parent, which leads to the parent's row
unfoldable pub parent_link_html : List ℕ → Html
parent_link_html id =
    Markup (codes "<dt>parent<dd><a href='#s-") ▹ Digits id ▹ Markup (codes "'>") ▹ Digits id
    ▹ Markup (codes "</a>")

-- the parent of a span in this place: none of a root, and no link where it wasn't received
unfoldable pub parent_html : Place → List ℕ → Html
parent_html Root id = Nothing
parent_html Child id = parent_link_html id
parent_html Orphan id = Markup (codes "<dt>parent<dd>") ▹ Digits id
parent_html Cycle id = parent_link_html id

-- the identifiers of a span and of its parent
unfoldable pub ids_html : {A : Type 0} → Span A → Place → Html
ids_html span place =
    Markup (codes "<dl><dt>span<dd>") ▹ Digits span.span_id.items
    ▹ parent_html place span.parent_span_id.items

-- what is said of a status, unless it is nothing
abbrev pub message_html : List ℕ → Html
message_html message = text_after (codes ": ") message

-- its kind, its status and what is said of that
unfoldable pub state_html : {A : Type 0} → Span A → Html
state_html span =
    Markup (codes "<dt>kind<dd>") ▹ kind_html span.kind
    ▹ Markup (codes "<dt>status<dd>") ▹ status_html span.status.code
    ▹ message_html (string_bytes span.status.message)

-- a date and a time in UTC, and the nanoseconds since 1970
unfoldable pub instant_html : ℕ → Html
instant_html nanos =
    moment_html nanos ▹ Markup (codes " <small>") ▹ Number nanos ▹ Markup (codes "</small>")

-- when it started and ended, its trace state and its flags
unfoldable pub times_html : {A : Type 0} → Span A → Html
times_html span =
    Markup (codes "<dt>start<dd>") ▹ instant_html span.start_time_unix_nano
    ▹ Markup (codes "<dt>end<dd>") ▹ instant_html span.end_time_unix_nano
    ▹ context_html (string_bytes span.trace_state) span.flags

-- the facts of a span
unfoldable pub facts_html : {A : Type 0} → Span A → Place → Html
facts_html span place = ids_html span place ▹ state_html span ▹ times_html span

-- its attributes, events and links
unfoldable pub parts_html : {A : Type 0} → Span A → Html
parts_html span =
    attributes_html (codes "Attributes") span.attributes.items span.dropped_attributes_count
    ▹ events_html span ▹ links_html span

-- these, its resource and its scope
unfoldable pub panel_html : {A : Type 0} → ViewSpan A → Place → Html
panel_html s place =
    facts_html s.span place ▹ parts_html s.span ▹ resource_html (arc_value s.resource)
    ▹ scope_html (arc_value s.scope)
