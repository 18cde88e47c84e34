use Rattle.std.proofs.Common.{rules}
use Rattle.retry_core.specs.Retries.{fate_view}
use Rattle.relay_queue.proofs.Named.{gives_none, names_next}
use Rattle.relay_queue.proofs.ends.name_all.Goals as goal

pub loop-body-init : goal.loop-body-init
loop-body-init g c = gives_none (g.S.LostSink.named c.args.sink.now)

pub loop-body-preserved : goal.loop-body-preserved
loop-body-preserved g c =
    let named = g.S.LostSink.named in
    names_next (fate_view c.args.fate) c.args.bodies.now c.loop-body.body-index
    c.body-item.result _ (named c.args.sink.now) (named c.loop-body.sink)
    (named c.name_lost.new.sink) c.loop-body.invariant c.name_lost.ensures (search rules)
    c.body-item.is (search rules)
