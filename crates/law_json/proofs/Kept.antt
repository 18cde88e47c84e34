-- What is seen of a kept span in JSON is what is seen of it in the model.
use Rattle.std.proofs.Common.{◌≡◌, refl, sym, ap, ap₂, ◌∙◌, ℕ, List, [], ◌∷◌, ◌++◌, append-nil}
use Rattle.std.proofs.Common.{append_assoc, map, codes, decimal, String}
use Rattle.std.specs.Prelude.{string_bytes}
use Rattle.std.specs.Arc.{arc_value}
use Rattle.std.specs.List.{flat_map}
use Rattle.std.specs.declared.sync.Arc.{Arc}
use Rattle.hex.specs.Hex.{encode_lower}
use Rattle.json.specs.Token.{key, string}
use Rattle.otlp_read.specs.declared.any_value.AnyValue.{AnyValue}
use Rattle.otlp_read.specs.declared.resource.InstrumentationScope.{InstrumentationScope}
use Rattle.otlp_read.specs.declared.resource.Resource.{Resource}
use Rattle.otlp_read.specs.declared.span.Event.{Event}
use Rattle.otlp_read.specs.declared.span.Link.{Link}
use Rattle.otlp_read.specs.declared.span.Span.{Span}
use Rattle.otlp_read.specs.Resources.{resource_view, scope_view}
use Rattle.otlp_read.specs.Spans.{event_view, events_view, link_view, links_view, span_view}
use Rattle.otlp_read.specs.Spans.{status_view}
use Rattle.otlp_read.specs.Values.{pairs_view}
use Rattle.trace_store.specs.declared.span.ViewScope.{ViewScope}
use Rattle.trace_store.specs.declared.span.ViewSpan.{ViewSpan}
use Rattle.otlp_json.specs.Seen.{Seen, Other, braces, brackets, number_seen}
use Rattle.view_json.specs.Spans.{event_seen, link_seen, target_members, status_member, span_seen}
use Rattle.view_json.specs.Spans.{identity_members, work_members, attribute_members, event_members}
use Rattle.view_json.specs.Spans.{link_members, detail_members, resource_member, scope_member}
use Rattle.view_json.specs.Spans.{scope_spans_seen, resource_spans_seen, kept_seen, trace_seen}
use Rattle.view_json.specs.Values.{pair_seen, pair_text}
use Rattle.law_json.specs.Kept.{kept_triple}
use Rattle.law_json.proofs.Parts
use Rattle.law_json.proofs.Spans
use Rattle.law_json.proofs.Requests
use Rattle.law_json.proofs.Received.{member_is}

pairs_is : {A : Type 0} (ps : List (String A × AnyValue A))
    → flat_map pair_seen ps ≡ Parts.pairs_seen (pairs_view ps)
pairs_is [] = refl
pairs_is (p ∷ ps) =
    ap₂ (λ m l. pair_text (string_bytes p.0) m ++ l) (member_is p.1) (pairs_is ps)

-- attributes, before other members
abbrev with_pairs : List Seen → List Seen → List Seen
with_pairs pairs more = Other (key (codes "attributes")) ∷ (brackets pairs ++ more)

abbrev dropped : List ℕ → ℕ → List Seen
dropped name n = Other (key name) ∷ number_seen (decimal n) ∷ []

event_is : {A : Type 0} (e : Event A) → event_seen e ≡ braces (Parts.event_seen (event_view e))
unfolding event_seen
event_is e =
    ap (λ l. braces
    (Other (key (codes "timeUnixNano")) ∷ Other (string (decimal e.time_unix_nano))
    ∷ Other (key (codes "name")) ∷ Other (string (string_bytes e.name))
    ∷ with_pairs l (dropped (codes "droppedAttributesCount") e.dropped_attributes_count)))
    (pairs_is e.attributes.items)

events_are : {A : Type 0} (es : List (Event A))
    → flat_map event_seen es ≡ Spans.events_seen (events_view es)
events_are [] = refl
events_are (e ∷ es) = ap₂ (λ a b. a ++ b) (event_is e) (events_are es)

-- which span a link is to, before other members
abbrev with_target : {A : Type 0} → Link A → List Seen → List Seen
with_target l more =
    Other (key (codes "traceId")) ∷ Other (string (encode_lower l.trace_id.items))
    ∷ Other (key (codes "spanId")) ∷ Other (string (encode_lower l.span_id.items))
    ∷ Other (key (codes "traceState")) ∷ Other (string (string_bytes l.trace_state)) ∷ more

link_is : {A : Type 0} (l : Link A) → link_seen l ≡ braces (Spans.link_seen (link_view l))
unfolding link_seen target_members
link_is l =
    let count = dropped (codes "droppedAttributesCount") l.dropped_attributes_count in
    let flags = dropped (codes "flags") l.flags in
    ap (λ k. braces (with_target l k))
    (append_assoc
    (Other (key (codes "attributes")) ∷ brackets (flat_map pair_seen l.attributes.items)) count
    flags)
    ∙ ap (λ k. braces (with_target l (with_pairs k (count ++ flags)))) (pairs_is l.attributes.items)

links_are : {A : Type 0} (ls : List (Link A))
    → flat_map link_seen ls ≡ Spans.links_seen (links_view ls)
links_are [] = refl
links_are (l ∷ ls) = ap₂ (λ a b. a ++ b) (link_is l) (links_are ls)

regroup : (a b c d e f g : List Seen)
    → (((a ++ b) ++ (c ++ d)) ++ (e ++ f)) ++ g ≡ a ++ (b ++ (c ++ (d ++ (e ++ (f ++ g)))))
regroup a b c d e f g = simp append_assoc refl

-- the lists of a span and its status, of which this is seen
abbrev lists : {A : Type 0} → Span A → List Seen → List Seen → List Seen → List Seen → List Seen
lists s pairs events links status =
    with_pairs pairs (dropped (codes "droppedAttributesCount") s.dropped_attributes_count
    ++ (Other (key (codes "events")) ∷ (brackets events
    ++ (dropped (codes "droppedEventsCount") s.dropped_events_count
    ++ (Other (key (codes "links")) ∷ (brackets links
    ++ (dropped (codes "droppedLinksCount") s.dropped_links_count ++ status)))))))

lists_are : {A : Type 0} (s : Span A)
    → detail_members s ++ status_member s.status
    ≡ lists s (Parts.pairs_seen (pairs_view s.attributes.items))
    (Spans.events_seen (events_view s.events.items))
    (Spans.links_seen (links_view s.links.items))
    (Other (key (codes "status")) ∷ (braces (Parts.status_seen (status_view s.status)) ++ []))
unfolding detail_members attribute_members event_members link_members status_member
lists_are s =
    let status = braces (Parts.status_seen (status_view s.status)) in
    regroup (Other (key (codes "attributes")) ∷ brackets (flat_map pair_seen s.attributes.items))
    (dropped (codes "droppedAttributesCount") s.dropped_attributes_count)
    (Other (key (codes "events")) ∷ brackets (flat_map event_seen s.events.items))
    (dropped (codes "droppedEventsCount") s.dropped_events_count)
    (Other (key (codes "links")) ∷ brackets (flat_map link_seen s.links.items))
    (dropped (codes "droppedLinksCount") s.dropped_links_count)
    (Other (key (codes "status")) ∷ status)
    ∙ ap (λ p. lists s p (flat_map event_seen s.events.items) (flat_map link_seen s.links.items)
    (Other (key (codes "status")) ∷ status)) (pairs_is s.attributes.items)
    ∙ ap (λ p. lists s (Parts.pairs_seen (pairs_view s.attributes.items)) p
    (flat_map link_seen s.links.items) (Other (key (codes "status")) ∷ status))
    (events_are s.events.items)
    ∙ ap₂ (λ p q. lists s (Parts.pairs_seen (pairs_view s.attributes.items))
    (Spans.events_seen (events_view s.events.items)) p (Other (key (codes "status")) ∷ q))
    (links_are s.links.items) (sym (append-nil status))

span_is : {A : Type 0} (s : Span A) → span_seen s ≡ braces (Spans.span_seen (span_view s))
unfolding span_seen identity_members work_members
span_is s = ap (λ l. braces (identity_members s ++ (work_members s ++ l))) (lists_are s)

resource_is : {A : Type 0} (r : Resource A)
    → resource_member r
    ≡ Other (key (codes "resource")) ∷ braces (Parts.resource_seen (resource_view r))
unfolding resource_member
resource_is r =
    ap (λ l. Other (key (codes "resource"))
    ∷ braces (with_pairs l (dropped (codes "droppedAttributesCount") r.dropped_attributes_count)))
    (pairs_is r.attributes.items)

scope_is : {A : Type 0} (s : InstrumentationScope A)
    → scope_member s ≡ Other (key (codes "scope")) ∷ braces (Parts.scope_seen (scope_view s))
unfolding scope_member
scope_is s =
    ap (λ l. Other (key (codes "scope")) ∷ braces
    (Other (key (codes "name")) ∷ Other (string (string_bytes s.name))
    ∷ Other (key (codes "version")) ∷ Other (string (string_bytes s.version))
    ∷ with_pairs l (dropped (codes "droppedAttributesCount") s.dropped_attributes_count)))
    (pairs_is s.attributes.items)

-- a member that holds a list, and the schema's URL
abbrev list_and_url : List ℕ → List Seen → List ℕ → List Seen
list_and_url name items url =
    Other (key name) ∷ (brackets items
    ++ Other (key (codes "schemaUrl")) ∷ Other (string url) ∷ [])

scope_spans_are : {A : Type 0} (scope : ViewScope A) (span : Span A)
    → scope_spans_seen scope span
    ≡ braces (Other (key (codes "scope")) ∷ (braces (Parts.scope_seen (scope_view scope.scope))
    ++ list_and_url (codes "spans") (braces (Spans.span_seen (span_view span)))
    (string_bytes scope.schema_url)))
unfolding scope_spans_seen
scope_spans_are scope span =
    let url =
    Other (key (codes "schemaUrl")) ∷ Other (string (string_bytes scope.schema_url)) ∷ [] in
    ap braces
    (append_assoc (scope_member scope.scope)
    (Other (key (codes "spans")) ∷ brackets (span_seen span)) url)
    ∙ ap₂ (λ s i. braces (s ++ list_and_url (codes "spans") i (string_bytes scope.schema_url)))
    (scope_is scope.scope) (span_is span)

kept_is : {A : Type 0} (kept : Arc (ViewSpan A) A)
    → kept_seen kept ≡ braces (Requests.resource_spans_seen (kept_triple kept))
unfolding resource_spans_seen
kept_is kept =
    let span = (arc_value kept).span in
    let resource = arc_value (arc_value kept).resource in
    let scope = arc_value (arc_value kept).scope in
    let url =
    Other (key (codes "schemaUrl")) ∷ Other (string (string_bytes resource.schema_url)) ∷ [] in
    ap braces
    (append_assoc (resource_member resource.resource)
    (Other (key (codes "scopeSpans")) ∷ brackets (scope_spans_seen scope span)) url)
    ∙ ap₂ (λ r i. braces
    (r ++ list_and_url (codes "scopeSpans") i (string_bytes resource.schema_url)))
    (resource_is resource.resource) (scope_spans_are scope span)

all_are : {A : Type 0} (spans : List (Arc (ViewSpan A) A))
    → flat_map kept_seen spans
    ≡ flat_map (λ t. braces (Requests.resource_spans_seen t)) (map kept_triple spans)
all_are [] = refl
all_are (kept ∷ spans) = ap₂ (λ a b. a ++ b) (kept_is kept) (all_are spans)

-- What is seen of a trace is what is seen of the request with its spans.
pub trace_is : {A : Type 0} (spans : List (Arc (ViewSpan A) A))
    → trace_seen spans ≡ braces (Requests.request_seen (map kept_triple spans))
trace_is spans =
    ap (λ l. braces (Other (key (codes "resourceSpans")) ∷ brackets l)) (all_are spans)
