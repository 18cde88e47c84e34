use Rattle.std.proofs.Common.{refl, map}
use Rattle.otlp_ids.specs.WordStream.{words_of}
use Rattle.otlp_span.specs.Parts.{scope_view}
use Rattle.trace_run.specs.Table.{setup_with}
use Rattle.trace_run.proofs.SpanSteps.{begun, tracers-are}
use Rattle.trace_run.proofs.table.SpanTable.new.Goals as goal

pub returns-clause-table : goal.returns-clause-table
returns-clause-table g c =
    let scopes = map scope_view c.args.scopes.items in
    begun g.S.Sampler.meaning g.R.Rng.stream
    (setup_with g.S.Sampler.meaning
    (words_of (g.R.Rng.stream c.args.rng)) c.args.provider.now scopes)
    _
    (tracers-are g.S.Sampler.meaning c.args.provider.now scopes c.in_ok-tracers.field-0.items
    c.in_ok-tracers.ensures)
    refl c.in_ok-with_capacity.ensures.items
