use Rattle.model_run.proofs.Tickets.{each-once}
use Rattle.model_run.proofs.laws.no_ticket_is_lost.Goals as goal

pub returns : goal.returns
returns c = record { once = each-once }
