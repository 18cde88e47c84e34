-- No row begins in what is written around the rows of a page, and in what is in a row.
use Rattle.std.proofs.Common.{◌≡◌, refl, ℕ, ◌+◌, ◌-◌, ◌/◌, ◌%◌, ◌==◌, length, Bool, true, false}
use Rattle.std.proofs.Common.{nat_lt, cond, List, [], ◌∷◌, ℤ, pos, negsuc, codes, Option, Some}
use Rattle.std.proofs.Common.{None, String, string_bytes}
use Rattle.page_text.specs.Doubles.{page_text}
use Rattle.model_message.specs.AnyValue.{AnyValue, AnyValues, KeyValues, none, no_values, value}
use Rattle.model_message.specs.AnyValue.{no_pairs, pair}
use Rattle.otlp_read.specs.Values.{any_value_view}
use Rattle.otlp_read.specs.declared.any_value.AnyValue.{AnyValue as Received}
use Rattle.otlp_read.specs.declared.span.Event.{Event}
use Rattle.otlp_read.specs.declared.span.Link.{Link}
use Rattle.otlp_read.specs.declared.span.Span.{Span}
use Rattle.trace_tree.specs.declared.span.Place.{Place}
use Rattle.trace_tree.specs.declared.span.Place.TheVariants.{Root, Child, Orphan, Cycle}
use Rattle.trace_store.specs.declared.span.ViewResource.{ViewResource}
use Rattle.trace_store.specs.declared.span.ViewScope.{ViewScope}
use Rattle.trace_store.specs.declared.span.ViewSpan.{ViewSpan}
use Rattle.view_pages.specs.Html.{Html, each, markup_if, text_after}
use Rattle.view_pages.specs.Pages.{axis_html, counts_html, head_html, start_html, title_html}
use Rattle.view_pages.specs.Dates.{date_html, fraction_html, hour_html, moment_html, three_html}
use Rattle.view_pages.specs.Dates.{two_html}
use Rattle.view_pages.specs.Panels.{instant_html, parent_html, parent_link_html}
use Rattle.view_pages.specs.Panels.{attributes_html, both_html, context_html}
use Rattle.view_pages.specs.Panels.{dropped_html, event_html, event_name_html, events_html}
use Rattle.view_pages.specs.Panels.{facts_html, ids_html, kind_html, link_html, links_html}
use Rattle.view_pages.specs.Panels.{list_html, offset_html, panel_html, parts_html, place_html}
use Rattle.view_pages.specs.Panels.{resource_html, scope_html, state_html, status_html, times_html}
use Rattle.view_pages.specs.Panels.{url_html, version_html}
use Rattle.view_pages.specs.Rows.{name_html, bar_html, class_html, depth_html, id_html}
use Rattle.view_pages.specs.Rows.{label_html, remark_html, remarks_html, span_html, span_rest}
use Rattle.view_pages.specs.Rows.{tag_html, tick_html, time_html}
use Rattle.view_pages.specs.Times.{duration, scaled}
use Rattle.view_pages.specs.Values.{pair_html, pairs_html, value_html, values_html}
use Rattle.trace_lines.specs.declared.date.MonthDay.{MonthDay}
use Rattle.trace_lines.specs.declared.date.YearDay.{YearDay}
use Rattle.trace_lines.specs.declared.line.Line.{Line}
use Rattle.trace_tree.specs.declared.draw.Frame.{Frame}
use Rattle.view_pages.proofs.Doubles.{lacks_double}
use Rattle.view_pages.proofs.Reading.{IsRowless, is_rowless, rowless_text}

rowless_each : {X : Type 0} (part : X → Html) (xs : List X) → ((x : X) → IsRowless (part x))
    → IsRowless (each part xs)
rowless_each part [] h = tt
rowless_each part (x ∷ xs) h = (h x, rowless_each part xs h)

rowless_if : (x : Bool) (a b : Html) → IsRowless a → IsRowless b → IsRowless (cond x a b)
rowless_if true a b h k = h
rowless_if false a b h k = k

rowless_markup_if : (holds : Bool) (markup : List ℕ) → is_rowless markup ≡ true
    → IsRowless (markup_if holds markup)
unfolding markup_if
rowless_markup_if holds markup h = rowless_if holds _ _ h tt

rowless_after : (before text : List ℕ) → is_rowless before ≡ true
    → IsRowless (text_after before text)
unfolding text_after
rowless_after before text h = rowless_if (length text == 0) _ _ tt (h, tt)

-- ---- times

rowless_scaled : (nanos unit : ℕ) (name : List ℕ) → is_rowless name ≡ true
    → IsRowless (scaled nanos unit name)
unfolding scaled
rowless_scaled nanos unit name h = (tt, (refl, (tt, (tt, h))))

rowless_duration : (nanos : ℕ) → IsRowless (duration nanos)
unfolding duration
rowless_duration nanos =
    rowless_if (nat_lt nanos 1_000) _ _ (tt, refl)
    (rowless_if (nat_lt nanos 1_000_000) _ _ (rowless_scaled nanos 1_000 (codes " us") refl)
    (rowless_if (nat_lt nanos 1_000_000_000) _ _ (rowless_scaled nanos 1_000_000 (codes " ms") refl)
    (rowless_scaled nanos 1_000_000_000 (codes " s") refl)))

-- ---- values

mutual
  unfolding value_html values_html pairs_html

  rowless_value : (v : AnyValue) → IsRowless (value_html v)
  rowless_value none = refl
  rowless_value (AnyValue.text t) = tt
  rowless_value (AnyValue.bool true) = refl
  rowless_value (AnyValue.bool false) = refl
  rowless_value (AnyValue.int i) = tt
  rowless_value (AnyValue.double d) = rowless_text (page_text d) (lacks_double d)
  rowless_value (AnyValue.array vs) = (refl, (rowless_values vs, refl))
  rowless_value (AnyValue.pairs ps) = (refl, (rowless_pairs ps, refl))
  rowless_value (AnyValue.bytes bs) = (refl, tt)

  rowless_values : (vs : AnyValues) → IsRowless (values_html vs)
  rowless_values no_values = tt
  rowless_values (value v vs) = ((refl, rowless_value v), rowless_values vs)

  rowless_pairs : (ps : KeyValues) → IsRowless (pairs_html ps)
  rowless_pairs no_pairs = tt
  rowless_pairs (pair key v ps) = ((refl, (tt, (refl, rowless_value v))), rowless_pairs ps)

rowless_pair : {A : Type 0} (p : String A × Received A) → IsRowless (pair_html p)
rowless_pair p = (refl, (tt, (refl, rowless_value (any_value_view p.1))))

-- ---- panels

rowless_dropped : (count : ℕ) → IsRowless (dropped_html count)
unfolding dropped_html
rowless_dropped count = rowless_if (count == 0) _ _ tt (refl, (tt, refl))

rowless_list : {A : Type 0} (pairs : List (String A × Received A)) → IsRowless (list_html pairs)
rowless_list pairs = (refl, (rowless_each pair_html pairs rowless_pair, refl))

rowless_attributes : {A : Type 0} (title : List ℕ) (pairs : List (String A × Received A))
    (dropped : ℕ)
    → is_rowless title ≡ true
    → IsRowless (attributes_html title pairs dropped)
unfolding attributes_html
rowless_attributes title pairs dropped h =
    (refl, (h, (rowless_dropped dropped, (refl, rowless_list pairs))))

rowless_offset : (start time : ℕ) → IsRowless (offset_html start time)
unfolding offset_html
rowless_offset start time =
    rowless_if (nat_lt time start) _ _ (refl, rowless_duration (start - time))
    (refl, rowless_duration (time - start))

rowless_event_name : {A : Type 0} (start : ℕ) (event : Event A)
    → IsRowless (event_name_html start event)
unfolding event_name_html
rowless_event_name start event =
    (refl, (tt, (refl, (rowless_offset start event.time_unix_nano, refl))))

rowless_event : {A : Type 0} (start : ℕ) (event : Event A) → IsRowless (event_html start event)
unfolding event_html
rowless_event start event = (
  rowless_event_name start event,
  (rowless_dropped event.dropped_attributes_count, (refl, rowless_list event.attributes.items)),
)

rowless_events : {A : Type 0} (span : Span A) → IsRowless (events_html span)
unfolding events_html
rowless_events span = (
  refl,
  (
    rowless_dropped span.dropped_events_count,
    (
      refl,
      rowless_each (event_html span.start_time_unix_nano) span.events.items
          (rowless_event span.start_time_unix_nano),
    ),
  ),
)

rowless_both : (trace span : List ℕ) → IsRowless (both_html trace span)
unfolding both_html
rowless_both trace span = (tt, (refl, tt))

rowless_place : (trace span : List ℕ) → IsRowless (place_html trace span)
unfolding place_html
rowless_place trace span = (refl, (tt, (refl, (tt, (refl, (rowless_both trace span, refl))))))

rowless_context : (state : List ℕ) (flags : ℕ) → IsRowless (context_html state flags)
unfolding context_html
rowless_context state flags =
    (rowless_after (codes "<dt>trace state<dd>") state refl, (refl, (tt, refl)))

rowless_link : {A : Type 0} (link : Link A) → IsRowless (link_html link)
unfolding link_html
rowless_link link = (
  refl,
  (
    rowless_place link.trace_id.items link.span_id.items,
    (
      rowless_dropped link.dropped_attributes_count,
      (
        refl,
        (
          rowless_context (string_bytes link.trace_state) link.flags,
          rowless_list link.attributes.items,
        ),
      ),
    ),
  ),
)

rowless_links : {A : Type 0} (span : Span A) → IsRowless (links_html span)
unfolding links_html
rowless_links span = (
  refl,
  (
    rowless_dropped span.dropped_links_count,
    (refl, rowless_each link_html span.links.items rowless_link),
  ),
)

rowless_url : (url : List ℕ) → IsRowless (url_html url)
unfolding url_html
rowless_url url = (refl, (tt, refl))

rowless_resource : {A : Type 0} (r : ViewResource A) → IsRowless (resource_html r)
unfolding resource_html
rowless_resource r = (
  rowless_attributes
      (codes "Resource") r.resource.attributes.items r.resource.dropped_attributes_count refl,
  rowless_url (string_bytes r.schema_url),
)

rowless_version : (name version : List ℕ) → IsRowless (version_html name version)
unfolding version_html
rowless_version name version = (refl, (tt, (refl, (tt, refl))))

rowless_scope : {A : Type 0} (s : ViewScope A) → IsRowless (scope_html s)
unfolding scope_html
rowless_scope s = (
  rowless_attributes (codes "Scope") s.scope.attributes.items s.scope.dropped_attributes_count refl,
  (
    rowless_version (string_bytes s.scope.name) (string_bytes s.scope.version),
    rowless_url (string_bytes s.schema_url),
  ),
)

rowless_kind : (kind : ℤ) → IsRowless (kind_html kind)
unfolding kind_html
rowless_kind (pos n) =
    rowless_if (n == 0) _ _ refl
    (rowless_if (n == 1) _ _ refl
    (rowless_if (n == 2) _ _ refl
    (rowless_if (n == 3) _ _ refl
    (rowless_if (n == 4) _ _ refl (rowless_if (n == 5) _ _ refl tt)))))
rowless_kind (negsuc n) = tt

rowless_status : (code : ℤ) → IsRowless (status_html code)
unfolding status_html
rowless_status (pos n) =
    rowless_if (n == 0) _ _ refl (rowless_if (n == 1) _ _ refl (rowless_if (n == 2) _ _ refl tt))
rowless_status (negsuc n) = tt

rowless_parent_link : (id : List ℕ) → IsRowless (parent_link_html id)
unfolding parent_link_html
rowless_parent_link id = (refl, (tt, (refl, (tt, refl))))

rowless_parent : (place : Place) (id : List ℕ) → IsRowless (parent_html place id)
unfolding parent_html
rowless_parent Root id = tt
rowless_parent Child id = rowless_parent_link id
rowless_parent Orphan id = (refl, tt)
rowless_parent Cycle id = rowless_parent_link id

rowless_ids : {A : Type 0} (span : Span A) (place : Place) → IsRowless (ids_html span place)
unfolding ids_html
rowless_ids span place = (refl, (tt, rowless_parent place span.parent_span_id.items))

rowless_state : {A : Type 0} (span : Span A) → IsRowless (state_html span)
unfolding state_html
rowless_state span = (
  refl,
  (
    rowless_kind span.kind,
    (
      refl,
      (
        rowless_status span.status.code,
        rowless_after (codes ": ") (string_bytes span.status.message) refl,
      ),
    ),
  ),
)

rowless_two : (n : ℕ) → IsRowless (two_html n)
unfolding two_html
rowless_two n = (tt, tt)

rowless_three : (n : ℕ) → IsRowless (three_html n)
unfolding three_html
rowless_three n = (tt, rowless_two (n % 100))

rowless_date : (year : YearDay) (month : MonthDay) → IsRowless (date_html year month)
unfolding date_html
rowless_date year month =
    (tt, (refl, (rowless_two month.month, (refl, rowless_two (month.day + 1)))))

rowless_hour : (seconds : ℕ) → IsRowless (hour_html seconds)
unfolding hour_html
rowless_hour seconds = (
  rowless_two (seconds / 3600 % 24),
  (refl, (rowless_two (seconds / 60 % 60), (refl, rowless_two (seconds % 60)))),
)

rowless_fraction : (nanos : ℕ) → IsRowless (fraction_html nanos)
unfolding fraction_html
rowless_fraction nanos = (
  rowless_three (nanos / 1_000_000),
  (rowless_three (nanos / 1_000 % 1_000), rowless_three (nanos % 1_000)),
)

rowless_moment : (nanos : ℕ) → IsRowless (moment_html nanos)
unfolding moment_html
rowless_moment nanos = (
  rowless_date _ _,
  (
    refl,
    (
      rowless_hour (nanos / 1_000_000_000),
      (refl, (rowless_fraction (nanos % 1_000_000_000), refl)),
    ),
  ),
)

rowless_instant : (nanos : ℕ) → IsRowless (instant_html nanos)
unfolding instant_html
rowless_instant nanos = (rowless_moment nanos, (refl, (tt, refl)))

rowless_times : {A : Type 0} (span : Span A) → IsRowless (times_html span)
unfolding times_html
rowless_times span = (
  refl,
  (
    rowless_instant span.start_time_unix_nano,
    (
      refl,
      (
        rowless_instant span.end_time_unix_nano,
        rowless_context (string_bytes span.trace_state) span.flags,
      ),
    ),
  ),
)

rowless_facts : {A : Type 0} (span : Span A) (place : Place) → IsRowless (facts_html span place)
unfolding facts_html
rowless_facts span place = (rowless_ids span place, (rowless_state span, rowless_times span))

rowless_parts : {A : Type 0} (span : Span A) → IsRowless (parts_html span)
unfolding parts_html
rowless_parts span = (
  rowless_attributes (codes "Attributes") span.attributes.items span.dropped_attributes_count refl,
  (rowless_events span, rowless_links span),
)

rowless_panel : {A : Type 0} (s : ViewSpan A) (place : Place) → IsRowless (panel_html s place)
unfolding panel_html
rowless_panel s place =
    (rowless_facts s.span place, (rowless_parts s.span, (rowless_resource _, rowless_scope _)))

-- ---- what is in a row

rowless_remark : (holds : Bool) (words : List ℕ) → is_rowless words ≡ true
    → IsRowless (remark_html holds words)
unfolding remark_html
rowless_remark holds words h = rowless_if holds _ _ (refl, (h, refl)) tt

rowless_remarks : {A : Type 0} (span : Span A) (place : Place) (is_repeated : Bool)
    → IsRowless (remarks_html span place is_repeated)
unfolding remarks_html
rowless_remarks span place is_repeated = (
  rowless_remark _ (codes "error") refl,
  (
    rowless_remark _ (codes "parent not received") refl,
    (
      rowless_remark _ (codes "cycle") refl,
      (
        rowless_remark _ (codes "ends before it starts") refl,
        rowless_remark is_repeated (codes "identifier is repeated") refl,
      ),
    ),
  ),
)

rowless_id : (is_first : Bool) (id : List ℕ) → IsRowless (id_html is_first id)
unfolding id_html
rowless_id is_first id = rowless_if is_first _ _ (refl, tt) tt

rowless_class : {A : Type 0} (s : ViewSpan A) (line : Line) → IsRowless (class_html s line)
unfolding class_html
rowless_class s line =
    (refl, (tt, (rowless_markup_if _ (codes " bad") refl, rowless_id line.mark.is_first _)))

rowless_depth : (depth : ℕ) → IsRowless (depth_html depth)
unfolding depth_html
rowless_depth depth = (refl, (tt, (refl, tt)))

rowless_bar : {A : Type 0} (span : Span A) (frame : Frame) → IsRowless (bar_html span frame)
unfolding bar_html
rowless_bar span frame = (refl, (tt, (refl, (tt, refl))))

rowless_name : (name : List ℕ) → IsRowless (name_html name)
unfolding name_html
rowless_name name = rowless_if (length name == 0) _ _ refl (refl, (tt, refl))

rowless_label : {A : Type 0} (s : ViewSpan A) (place : Place) (is_repeated : Bool)
    → IsRowless (label_html s place is_repeated)
unfolding label_html
rowless_label s place is_repeated = (
  refl,
  (
    rowless_name (string_bytes s.span.name),
    (refl, (tt, (refl, rowless_remarks s.span place is_repeated))),
  ),
)

rowless_tick : {A : Type 0} (frame : Frame) (event : Event A) → IsRowless (tick_html frame event)
unfolding tick_html
rowless_tick frame event = (refl, (tt, refl))

rowless_time : {A : Type 0} (span : Span A) (frame : Frame) → IsRowless (time_html span frame)
unfolding time_html
rowless_time span frame = (
  refl,
  (
    rowless_each (tick_html frame) span.events.items (rowless_tick frame),
    (refl, (rowless_duration _, refl)),
  ),
)

rowless_tag : {A : Type 0} (s : ViewSpan A) (line : Line) (frame : Frame)
    → IsRowless (tag_html s line frame)
unfolding tag_html
rowless_tag s line frame =
    (rowless_class s line, (rowless_depth line.row.depth, rowless_bar s.span frame))

rowless_span : {A : Type 0} (s : ViewSpan A) (line : Line) (frame : Frame)
    → IsRowless (span_html s line frame)
unfolding span_html
rowless_span s line frame = (
  rowless_tag s line frame,
  (
    rowless_label s line.row.place line.mark.is_repeated,
    (rowless_time s.span frame, (rowless_panel s line.row.place, refl)),
  ),
)

-- What follows the mark of a row, up to the next one, has no mark of a row.
pub rowless_rest : {A : Type 0} (at : Option (ViewSpan A)) (line : Line) (frame : Frame)
    → IsRowless (span_rest at line frame)
rowless_rest None line frame = tt
rowless_rest (Some s) line frame = rowless_span s line frame

-- ---- what is above the rows

rowless_start : IsRowless start_html
unfolding start_html
rowless_start = (refl, (refl, (refl, refl)))

rowless_title : (trace : List ℕ) → IsRowless (title_html trace)
unfolding title_html
rowless_title trace = (rowless_start, (refl, (tt, (refl, (tt, refl)))))

rowless_counts : (trace : List ℕ) (count took : ℕ) → IsRowless (counts_html trace count took)
unfolding counts_html
rowless_counts trace count took = (refl, (tt, (refl, (rowless_duration took, (refl, (tt, refl))))))

rowless_axis : (whole : ℕ) → IsRowless (axis_html whole)
unfolding axis_html
rowless_axis whole = (
  refl,
  (
    rowless_duration (whole / 4),
    (
      refl,
      (
        rowless_duration (whole / 2),
        (refl, (rowless_duration (whole - whole / 4), (refl, (rowless_duration whole, refl)))),
      ),
    ),
  ),
)

-- What is above the rows has no mark of a row.
pub rowless_head : (trace count : ℕ) (frame : Frame) → IsRowless (head_html trace count frame)
unfolding head_html
rowless_head trace count frame = (rowless_title _, (rowless_counts _ _ _, (rowless_axis _, refl)))
