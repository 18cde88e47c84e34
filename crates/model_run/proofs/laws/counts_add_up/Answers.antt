use Rattle.model_run.proofs.Counts.{tickets-add-up, accepted-add-up, taken-add-up, queue-bounded}
use Rattle.model_run.proofs.laws.counts_add_up.Goals as goal

pub returns : goal.returns
returns c = record {
  tickets = tickets-add-up;
  accepted = accepted-add-up;
  taken = taken-add-up;
  waiting = queue-bounded;
}
