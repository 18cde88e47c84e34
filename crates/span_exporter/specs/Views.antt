-- What attempts are in the model.
use Rattle.retry_core.specs.Retries.{outcome_view}
use Rattle.span_exporter.specs.Handed as model
use Rattle.span_exporter.specs.declared.handed.Handed.{Handed}

abbrev pub handed_view : {A : Type 0} → Handed A → model.Handed
handed_view h = record {
  number = h.number;
  attempt = h.attempt;
  body = h.body.items;
  outcome = outcome_view h.outcome;
}
