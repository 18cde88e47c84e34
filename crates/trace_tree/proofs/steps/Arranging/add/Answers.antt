use Rattle.std.proofs.Common.{rules}
use Rattle.trace_tree.proofs.Stepping.{first_more}
use Rattle.trace_tree.proofs.steps.Arranging.add.Goals as goal

pub returns : goal.returns
returns g c spans at span first found is =
    first_more spans at span c.args.kin c.args.self.now (record { kins = c.push.new.self }) first
    found is (search rules)
