use Rattle.std.proofs.Common.{◌≡◌, ◌∙◌, refl, ap, length, Some, None, slice_get}
use Rattle.std.proofs.lemmas.Option.{slice_get_past, slice_get_read}
use Rattle.trace_run.proofs.SpanSteps.{set-same}
use Rattle.trace_run.proofs.table.call_among.Goals as goal

pub returns-in_default : goal.returns-in_default
returns-in_default g c =
    let spans = c.args.spans.now.items in
    let none : slice_get spans c.args.number ≡ None =
    slice_get_past spans c.args.number c.in_default.ensures.item.3 in
    record {
      called = rw none (record { answered = refl; spans = refl; untouched = refl });
      room = refl;
    }

pub returns-in_default-slot : goal.returns-in_default-slot
returns-in_default-slot g c =
    let spans = c.args.spans.now.items in
    let found : slice_get spans c.args.number ≡ Some c.in-Some.slot.now =
    slice_get_read spans
    (length spans) c.args.number c.in-Some.slot.now refl c.in-Some.ensures.item.3.0
    c.in-Some.ensures.item.1 in
    let there : slice_get spans c.args.number ≡ Some None = found ∙ ap Some c.in_default-slot.is in
    record {
      called =
          rw there
          (record {
            answered = refl;
            spans = set-same spans c.args.number c.in-Some.slot.now found;
            untouched = refl;
          });
      room = refl;
    }

pub returns : goal.returns
returns g c =
    let spans = c.args.spans.now.items in
    let found : slice_get spans c.args.number ≡ Some c.in-Some.slot.now =
    slice_get_read spans
    (length spans) c.args.number c.in-Some.slot.now refl c.in-Some.ensures.item.3.0
    c.in-Some.ensures.item.1 in
    let there : slice_get spans c.args.number ≡ Some (Some c.in-Some-slot.span) =
    found ∙ ap Some c.in-Some-slot.is in
    let said = c.call_span.ensures in
    record {
      called =
          rw there (
            c.call_span.new.span,
            refl,
            record { made = said.made; asks_nothing = said.asks_nothing; ended = said.ended },
          );
      room = refl;
    }
