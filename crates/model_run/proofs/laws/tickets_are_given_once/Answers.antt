use Rattle.model_run.proofs.Tickets.{tickets-in-order}
use Rattle.model_run.proofs.laws.tickets_are_given_once.Goals as goal

pub returns : goal.returns
returns c = record { in_order = tickets-in-order }
