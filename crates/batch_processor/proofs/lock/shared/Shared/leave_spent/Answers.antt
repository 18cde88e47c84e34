use Rattle.std.proofs.Common.{rules}
use Rattle.batch_processor.proofs.Holds.{exchanged}
use Rattle.batch_processor.proofs.lock.shared.Shared.leave_spent.Goals as goal

pub returns-then-waiting-self-clause-spent : goal.returns-then-waiting-self-clause-spent
returns-then-waiting-self-clause-spent g c =
    exchanged c.args.spent.now.items c.args.self.now.spent c.swap.new.y.items c.swap.new.x.items
    (search rules) (search rules)
