use Rattle.std.proofs.Common.{◌≡◌, ◌∙◌, refl, sym, ap, length, Some, None, Err, slice_get}
use Rattle.std.proofs.lemmas.Bool.{ltb-false}
use Rattle.std.proofs.lemmas.Option.{slice_get_past, slice_get_read}
use Rattle.otlp_ids.specs.SpanContext.{parent_view}
use Rattle.otlp_span.specs.Parts.{kind_view}
use Rattle.trace_run.specs.Steps.{parent_name_view}
use Rattle.trace_run.specs.Table.{parent_in}
use Rattle.trace_run.proofs.SpanSteps.{opens-no-parent, opens-no-scope, opens-with, said_of}
use Rattle.trace_run.proofs.table.SpanTable.open.Goals as goal
use Rattle.trace_run.proofs.table.SpanTable.open.Goals.{in-Ok, in-Err-NoRandomness}
use Rattle.trace_run.proofs.table.SpanTable.open.Goals.{in-Err-OutOfMemory}

pub returns-in_default : goal.returns-in_default
returns-in_default g c =
    let tracers = c.deref.result.now in
    let none : slice_get tracers c.args.scope ≡ None =
    slice_get_past tracers c.args.scope
    (ltb-false c.args.scope (length tracers) (sym c.in_default.ensures.lookup.0)) in
    opens-no-scope g.S.Sampler.meaning g.R.Rng.stream c.args.scope _ _ c.args.at c.args.name.now
    c.args.self.now
    (rw (c.deref.ensures.value ∙ ap (λ t. t.tracers) c.self.view_is) at none)

pub returns-in_default-parent_context : goal.returns-in_default-parent_context
returns-in_default-parent_context g c =
    let none : None ≡ parent_in c.args.self.now.spans (parent_name_view c.args.parent.now) =
    rw (c.as_slice.ensures.value ∙ ap (λ t. t.spans) c.self.view_is) at
    c.in_default-parent_context.ensures in
    opens-no-parent g.S.Sampler.meaning g.R.Rng.stream c.args.scope
    (parent_name_view c.args.parent.now)
    (kind_view c.args.kind) c.args.at c.args.name.now c.args.self.now (sym none)

pub returns : goal.returns
returns g c =
    let tracers = c.deref.result.now in
    let found : slice_get tracers c.args.scope ≡ Some c.in-Some.tracer.now =
    slice_get_read tracers
    (length tracers) c.args.scope c.in-Some.tracer.now refl c.in-Some.ensures.lookup.3.0
    c.in-Some.ensures.lookup.1 in
    let parent : Some (parent_view c.in-Some-parent_context.parent)
    ≡ parent_in c.args.self.now.spans (parent_name_view c.args.parent.now) =
    rw (c.as_slice.ensures.value ∙ ap (λ t. t.spans) c.self.view_is) at
    c.in-Some-parent_context.ensures in
    let said : c.match-start_copied.result ≡ said_of c.start_copied.result =
    elim c.match-start_copied.branch [
      | in-Ok w ↦ w.result-is ∙ sym (ap said_of w.in-Ok.is)
      | in-Err-NoRandomness w ↦
          w.result-is
          ∙ sym (ap said_of (w.in-Err-NoRandomness.is ∙ ap Err w.in-Err-NoRandomness.field-0-is))
      | in-Err-OutOfMemory w ↦
          w.result-is
          ∙ sym (ap said_of (w.in-Err-OutOfMemory.is ∙ ap Err w.in-Err-OutOfMemory.field-0-is))
    ] in
    let words = ap (λ t. t.rng) c.self.view_is in
    opens-with g.S.Sampler.meaning g.R.Rng.stream c.args.scope (parent_name_view c.args.parent.now)
    (kind_view c.args.kind) c.args.at c.args.name.now c.args.self.now _ c.in-Some.tracer.now
    (parent_view c.in-Some-parent_context.parent) c.start_copied.result c.match-start_copied.result
    (ap (λ t. t.tracers) c.self.view_is) (ap (λ t. t.spans) c.self.view_is)
    (ap (λ t. t.room) c.self.view_is)
    (rw (c.deref.ensures.value ∙ ap (λ t. t.tracers) c.self.view_is) at found) (sym parent)
    (rw words at c.start_copied.ensures.started) said
    (rw words at c.start_copied.ensures.spent.words)
