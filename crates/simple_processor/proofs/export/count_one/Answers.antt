use Rattle.std.proofs.Common.{ap, ◌∙◌}
use Rattle.model_desk.specs.Desks.{with_drops}
use Rattle.otlp_span.specs.Dropped.{reason_view}
use Rattle.drop_ledger.specs.Counts.{drop_counts_view}
use Rattle.simple_processor.proofs.Counts.{counts_one}
use Rattle.simple_processor.proofs.export.count_one.Goals as goal

pub returns : goal.returns
returns c =
    counts_one c.args.fault.now c.args.dropped.now c.add.new.self
    (c.add.ensures
    ∙ ap
    (λ r. with_drops (reason_view r) 1 (drop_counts_view c.args.dropped.now)) c.reason.ensures.is)
