use Rattle.std.proofs.Common.{◌∙◌, ap, ◌∷◌, [], ◌++◌, false, Some, None}
use Rattle.model_run.specs.Runs.{is_refused}
use Rattle.otlp_ids.specs.WordStream.{words_of}
use Rattle.otlp_span.specs.Parts.{kind_view}
use Rattle.trace_run.specs.Answers.{answer_view}
use Rattle.trace_run.specs.Steps.{parent_name_view}
use Rattle.trace_run.proofs.SpanSteps.{comes-none, comes-span, started-is}
use Rattle.trace_run.proofs.table.SpanTable.start.Goals as goal

pub returns-in-Ok-clause-answered : goal.returns-in-Ok-clause-answered
returns-in-Ok-clause-answered g c = λ setup steps h.
    let comes = c.in-Ok.ensures.comes setup steps h in
    (comes-span c.context.result.now.trace.0 c.context-in-Ok.result.now.span.0 comes
    (ap (λ x. x.trace) c.context.ensures) (ap (λ x. x.span) c.context-in-Ok.ensures)).0

pub returns-in-Ok-clause-table : goal.returns-in-Ok-clause-table
returns-in-Ok-clause-table g c = λ setup steps h.
    let comes = c.in-Ok.ensures.comes setup steps h in
    let told =
    comes-span c.context.result.now.trace.0 c.context-in-Ok.result.now.span.0 comes
    (ap (λ x. x.trace) c.context.ensures) (ap (λ x. x.span) c.context-in-Ok.ensures) in
    let p = parent_name_view c.args.parent.now in
    let k = kind_view c.args.kind in
    started-is g.S.Sampler.meaning g.R.Rng.stream setup steps false c.args.scope p k c.args.at
    c.args.name.now c.args.self.now _
    (Some c.in-Ok.span) h (ap (λ t. t.tracers) c.self.view_is ∙ c.in-Ok.ensures.tracers)
    (c.push_reserved.ensures.items
    ∙ ap (λ xs. xs ++ Some c.in-Ok.span ∷ [])
    (ap (λ t. t.spans) c.self.view_is ∙ c.in-Ok.ensures.spans))
    (ap (λ t. words_of (g.R.Rng.stream t.rng)) c.self.view_is ∙ comes.words) told.1

pub returns-in-Err-clause-answered : goal.returns-in-Err-clause-answered
returns-in-Err-clause-answered g c = λ setup steps h.
    let comes = c.in-Err.ensures.comes setup steps h in
    (comes-none c.in-Err.answer comes).answered

pub returns-in-Err-clause-table : goal.returns-in-Err-clause-table
returns-in-Err-clause-table g c = λ setup steps h.
    let comes = c.in-Err.ensures.comes setup steps h in
    let p = parent_name_view c.args.parent.now in
    let k = kind_view c.args.kind in
    started-is g.S.Sampler.meaning g.R.Rng.stream setup steps
    (is_refused (answer_view c.in-Err.answer)) c.args.scope p k c.args.at c.args.name.now
    c.args.self.now _ None h
    (ap (λ t. t.tracers) c.self.view_is ∙ c.in-Err.ensures.tracers)
    (c.push_reserved-in-Err.ensures.items
    ∙ ap (λ xs. xs ++ None ∷ []) (ap (λ t. t.spans) c.self.view_is ∙ c.in-Err.ensures.spans))
    (ap (λ t. words_of (g.R.Rng.stream t.rng)) c.self.view_is ∙ comes.words)
    (comes-none c.in-Err.answer comes).slot
