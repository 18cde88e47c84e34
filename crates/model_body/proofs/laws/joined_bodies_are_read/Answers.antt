use Rattle.model_body.proofs.Joined.{joined_is_read, joined_has_spans}
use Rattle.model_body.proofs.laws.joined_bodies_are_read.Goals as goal

pub returns : goal.returns
returns c = record { two = joined_is_read; all = joined_has_spans }
