use Rattle.std.proofs.Common.{◌<◌, ◌+◌, arith, length}
use Rattle.relay_queue.specs.Bodies.{bodies_view}
use Rattle.relay_queue.proofs.Lines.{joined-fits, joined-longer}
use Rattle.relay_queue.proofs.bodies.size_at.Goals as goal

pub returns-clause-more : goal.returns-clause-more
returns-clause-more g c =
    let there : c.args.at < length c.args.bodies.now.items =
    omega (arith, c.requires, c.args.bodies.now.ok) in
    let longer =
    joined-longer c.args.bodies.now.items c.args.at c.index.result.now there c.index.ensures in
    omega (arith, longer, c.len.ensures, c.index.result.now.ok)

pub returns-clause-within : goal.returns-clause-within
returns-clause-within g c = joined-fits (c.args.at + 1) (bodies_view c.args.bodies.now.items)
