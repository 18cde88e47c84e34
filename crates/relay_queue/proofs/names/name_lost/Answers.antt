use Rattle.std.proofs.Common.{subst, sym}
use Rattle.retry_core.specs.Retries.{fate_view}
use Rattle.relay_queue.specs.Named.{Gains}
use Rattle.relay_queue.proofs.Walked.{body-met}
use Rattle.relay_queue.proofs.names.name_lost.Goals as goal

pub returns : goal.returns
returns g c =
    let named = g.S.LostSink.named in
    subst (λ l. Gains l (named c.args.sink.now) (named c.name_resources.new.sink))
    (sym (body-met (fate_view c.args.fate) c.args.body.now)) c.name_resources.ensures
