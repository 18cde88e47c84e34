use Rattle.std.proofs.Common.{◌≡◌, length, take, vec_capacity}
use Rattle.model_run.specs.Headline.{attempts}
use Rattle.trace_run.specs.Answers.{history_view}
use Rattle.trace_run.specs.Out.{IsReady}
use Rattle.trace_run.specs.Run.{run_config}
use Rattle.trace_run.specs.State.{Stands, HasItsBody, TellsAll}
use Rattle.trace_run.proofs.whole.run.Given as goal

-- Its state is what the steps so far mean, and the exporter shows their attempts.
abbrev pub invariant-loop-step : goal.invariant-loop-step
invariant-loop-step g l = record {
  stands : Stands g.S.Sampler.meaning g.R.Rng.stream
      (run_config g.S.Sampler.meaning g.R.Rng.stream l.fn.config)
      (history_view (take l.step-index l.steps) l.answers.items) l.running.table l.running.queue
      l.out;
  told : TellsAll (attempts (history_view (take l.step-index l.steps) l.answers.items))
      (HasItsBody (run_config g.S.Sampler.meaning g.R.Rng.stream l.fn.config).setup
      (history_view (take l.step-index l.steps) l.answers.items))
      (g.E.Exporter.handed l.fn.exporter) (g.E.Exporter.handed l.exporter);
  ready : IsReady (g.E.Exporter.room l.exporter) l.out;
  retry : l.running.retry ≡ l.fn.config.retry;
  max_body : l.running.max_body ≡ l.fn.config.max_body;
  count : length l.answers.items ≡ l.step-index;
  answers_room : vec_capacity l.answers ≡ length l.steps;
  table_room : l.running.table.room ≡ length l.steps;
}
