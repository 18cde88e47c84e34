use Rattle.std.proofs.Common.{◌≡◌, ◌∙◌, ap, length, refl, false, Some, None}
use Rattle.std.specs.Prelude.{option_map, slice_get}
use Rattle.std.specs.Arc.{arc_value}
use Rattle.std.proofs.lemmas.Option.{slice_get-map, slice_get_past, slice_get_read}
use Rattle.trace_store.specs.declared.span.ViewSpan.{ViewSpan}
use Rattle.trace_lines.specs.Plans.{values}
use Rattle.trace_lines.specs.Repeats.{mark_by, mark_of}
use Rattle.trace_lines.specs.Services.{colour_at, colour_of, services_of}
use Rattle.trace_store.specs.Facts.{service_of}
use Rattle.trace_lines.proofs.Gathers.{line_is}
use Rattle.trace_lines.proofs.Repeats.{mark_of_use}
use Rattle.trace_lines.proofs.line.line_for.Goals as goal

pub returns-in-Some : goal.returns-in-Some
returns-in-Some g c = λ h.
    let owned = c.args.spans.now in
    let spans = values owned in
    let index = c.args.row.index in
    let span = c.in-Some.span.now in
    let found : slice_get spans index ≡ Some (arc_value span) =
    slice_get-map arc_value owned index
    ∙ ap (option_map arc_value)
    (slice_get_read owned (length owned) index span refl c.in-Some.ensures.lookup.3.0
    c.in-Some.ensures.lookup.1) in
    line_is spans c.args.row (Some (arc_value span)) c.mark_of.result c.colour_by.result found
    (c.mark_of.ensures
    ∙ ap (λ u. mark_by u index) (h.uses.each c.deref-in-Some.result.now)
    ∙ mark_of_use spans c.deref-in-Some.result.now index
    ∙ ap (λ id. mark_of spans id index)
    (c.deref-in-Some.ensures.value
    ∙ ap (λ (s : ViewSpan _). s.span.span_id.items) c.deref.ensures))
    (c.colour_by.ensures
    ∙ ap colour_at (h.services.each c.as_bytes.result.now)
    ∙ ap (colour_of (services_of spans))
    (c.as_bytes.ensures.value ∙ c.service_of.ensures ∙ ap service_of c.deref-in-Some-2.ensures))

pub returns-in-None : goal.returns-in-None
returns-in-None g c = λ h.
    line_is (values c.args.spans.now) c.args.row None
    (record { is_first = false; is_repeated = false }) 0
    (slice_get-map arc_value c.args.spans.now c.args.row.index
    ∙ ap (option_map arc_value)
    (slice_get_past c.args.spans.now c.args.row.index c.in-None.ensures.lookup.3))
    refl refl
