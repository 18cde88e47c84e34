use Rattle.std.proofs.Common.{subst}
use Rattle.retry_core.specs.Retries.{outcome_view}
use Rattle.relay_exporter.specs.Attempts.{Guarding, IsGuardedAttempt}
use Rattle.relay_exporter.proofs.Guarded.{guarded}
use Rattle.relay_exporter.proofs.exporter.OutageExporter.attempt.Goals as goal

pub returns : goal.returns
returns g c =
    let attempts = g.E.ReportsFailure.attempts in
    let reported = g.E.ReportsFailure.reported in
    let old : Guarding _ = record {
      exporter = c.self.inside.exporter;
      judge = c.self.inside.judge;
      failure = c.self.inside.failure;
    } in
    let inside : Guarding _ = record {
      exporter = c.self-2.inside.exporter;
      judge = c.self-2.inside.judge;
      failure = c.self-2.inside.failure;
    } in
    let new : Guarding _ = record {
      exporter = c.self-2.inside.exporter;
      judge = c.judge-judged.new.self;
      failure = c.self-2.inside.failure;
    } in
    subst (λ was. IsGuardedAttempt attempts reported c.args.body.now was new
    (outcome_view c.in_seconds.result)) c.self.view_is
    (guarded attempts reported c.args.body.now old c.takes_others-takes_others.new.self inside
    c.attempt-met.new.self c.failure_of-self-inside.result c.judge-judged.new.self
    (outcome_view c.attempt-met.result) (outcome_view c.judge-judged.result)
    (outcome_view c.in_seconds.result) c.takes_others-takes_others.result
    c.seconds_now-now.result c.attempt-met.ensures.outcome c.failure_of-self-inside.ensures
    c.takes_others-takes_others.ensures.takes c.takes_others-takes_others.ensures.only
    c.self-2.view_is c.judge-judged.ensures.judge c.judge-judged.ensures.outcome
    c.in_seconds.ensures)
