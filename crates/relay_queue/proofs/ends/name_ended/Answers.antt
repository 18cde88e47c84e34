use Rattle.std.proofs.Common.{rules}
use Rattle.retry_core.specs.Retries.{fate_view}
use Rattle.relay_queue.specs.Bodies.{bodies_view}
use Rattle.relay_queue.proofs.Named.{names_kept, names_lost}
use Rattle.relay_queue.proofs.ends.name_ended.Goals as goal

pub returns-then-not-is_loss : goal.returns-then-not-is_loss
returns-then-not-is_loss g c =
    names_kept (fate_view c.args.fate) (bodies_view c.args.bodies.now)
    (g.S.LostSink.named c.args.sink.now) (search rules)

pub returns : goal.returns
returns g c =
    let named = g.S.LostSink.named in
    names_lost (fate_view c.args.fate) (bodies_view c.args.bodies.now)
    (named c.args.sink.now) (named c.name_all.new.sink) (search rules) c.name_all.ensures
