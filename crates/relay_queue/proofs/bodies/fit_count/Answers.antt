use Rattle.std.proofs.Common.{deque_len}
use Rattle.relay_queue.specs.Bodies.{bodies_view}
use Rattle.relay_queue.proofs.Lines.{fit-greatest, fit-within}
use Rattle.relay_queue.proofs.bodies.fit_count.Goals as goal

pub returns-clause-within : goal.returns-clause-within
returns-clause-within g c k =
    fit-within (bodies_view c.args.bodies.now.items) c.args.limit c.whole_count.result _
    c.max.ensures c.whole_count.ensures.within k

pub returns-clause-greatest : goal.returns-clause-greatest
returns-clause-greatest g c k =
    fit-greatest (bodies_view c.args.bodies.now.items) (deque_len c.args.bodies.now) c.args.limit
    c.whole_count.result _ c.max.ensures c.whole_count.ensures.greatest k
