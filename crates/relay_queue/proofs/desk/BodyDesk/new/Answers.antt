use Rattle.std.proofs.Common.{rules}
use Rattle.relay_queue.specs.Bodies.{config_view}
use Rattle.relay_queue.proofs.Histories.{new_follows}
use Rattle.relay_queue.proofs.desk.BodyDesk.new.Goals as goal

pub returns-clause-history : goal.returns-clause-history
returns-clause-history g c = new_follows (config_view c.args.config) _ (search rules)
