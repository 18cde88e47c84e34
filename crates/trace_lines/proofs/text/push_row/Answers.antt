use Rattle.std.proofs.Common.{◌≡◌, ◌∙◌, ◌++◌, ap, append-nil, length, refl, sym, string_bytes, Some}
use Rattle.std.specs.Prelude.{option_map, slice_get}
use Rattle.std.specs.Arc.{arc_value}
use Rattle.std.proofs.lemmas.Option.{slice_get_past, slice_get_read}
use Rattle.trace_lines.specs.Plans.{tree_span}
use Rattle.trace_lines.specs.Texts.{span_text}
use Rattle.trace_lines.proofs.Texts.{moved, same_line}
use Rattle.trace_lines.proofs.text.push_row.Goals as goal

pub returns : goal.returns
returns g c =
    let row = c.args.line.now.row in
    let found : slice_get c.args.spans.now row.index ≡ Some c.in-Some.span.now =
    slice_get_read c.args.spans.now
    (length c.args.spans.now) row.index c.in-Some.span.now refl c.in-Some.ensures.lookup.3.0
    c.in-Some.ensures.lookup.1 in
    moved _ (λ t. t) _ _ (string_bytes c.args.out.now) (string_bytes c.write_line.new.out)
    (same_line c.tree_span-span.result (tree_span c.deref.result.now) row c.args.frame 40
    c.tree_span-span.ensures
    ∙ ap (λ s. span_text (Some s) row c.args.frame) c.deref.ensures
    ∙ ap (λ at. span_text (option_map arc_value at) row c.args.frame) (sym found))
    c.write_line.ensures

pub returns-in_default : goal.returns-in_default
returns-in_default g c =
    sym (append-nil (string_bytes c.args.out.now))
    ∙ ap (λ at. string_bytes c.args.out.now
    ++ span_text (option_map arc_value at) c.args.line.now.row c.args.frame)
    (sym (slice_get_past c.args.spans.now c.args.line.now.row.index c.in_default.ensures.lookup.3))
