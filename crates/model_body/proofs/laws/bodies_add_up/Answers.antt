use Rattle.model_body.proofs.Accounts.{bodies_add_up, deliveries_are_bodies, spans_add_up}
use Rattle.model_body.proofs.Losses.{losses_are_named}
use Rattle.model_body.proofs.laws.bodies_add_up.Goals as goal

pub returns : goal.returns
returns c = record {
  bodies = bodies_add_up;
  deliveries = deliveries_are_bodies;
  spans = spans_add_up;
  names = losses_are_named;
}
