use Rattle.std.proofs.Common.{◌≡◌, ◌∙◌, ◌++◌, ap, append-nil, length, refl, sym, string_bytes, Some}
use Rattle.std.specs.Prelude.{option_map, slice_get}
use Rattle.std.specs.Arc.{arc_value}
use Rattle.std.proofs.lemmas.Option.{slice_get_past, slice_get_read}
use Rattle.view_pages.specs.Html.{html_bytes}
use Rattle.view_pages.specs.Rows.{span_html, span_rest}
use Rattle.view_pages.proofs.Parts.{same_ok}
use Rattle.view_pages.proofs.row.push_rest.Goals as goal

pub returns-in-Some : goal.returns-in-Some
returns-in-Some g c =
    let index = c.args.line.now.row.index in
    let found : slice_get c.args.spans.now index ≡ Some c.in-Some.span.now =
    slice_get_read c.args.spans.now
    (length c.args.spans.now) index c.in-Some.span.now refl c.in-Some.ensures.lookup.3.0
    c.in-Some.ensures.lookup.1 in
    same_ok _ _ _ _ _ (λ at. span_rest (option_map arc_value at) c.args.line.now c.args.frame)
    (sym found)
    (same_ok _ _ _ _ _
    (λ s. span_html s c.args.line.now c.args.frame) c.deref.ensures c.push_span.ensures)

pub returns-in-None : goal.returns-in-None
unfolding html_bytes
returns-in-None g c =
    sym (append-nil (string_bytes c.args.out.now))
    ∙ ap (λ at. string_bytes c.args.out.now
    ++ html_bytes (span_rest (option_map arc_value at) c.args.line.now c.args.frame))
    (sym (slice_get_past c.args.spans.now c.args.line.now.row.index c.in-None.ensures.lookup.3))
