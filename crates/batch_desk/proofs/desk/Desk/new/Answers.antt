use Rattle.std.proofs.Common.{rules}
use Rattle.batch_desk.specs.Views.{config_view}
use Rattle.batch_desk.proofs.Histories.{new_follows}
use Rattle.batch_desk.proofs.desk.Desk.new.Goals as goal

pub returns-clause-history : goal.returns-clause-history
returns-clause-history g c = new_follows (config_view c.args.config) _ _ (search rules)
