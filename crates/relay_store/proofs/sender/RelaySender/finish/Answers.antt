use Rattle.std.proofs.Common.{subst, sym}
use Rattle.retry_core.specs.Retries.{next_view}
use Rattle.relay_queue.specs.Bodies.{bodies_view}
use Rattle.relay_queue.specs.Named.{Gains}
use Rattle.relay_queue.specs.Senders.{names_after}
use Rattle.relay_store.specs.Accounts.{sent_in}
use Rattle.relay_store.specs.Handlers.{Finishes, Handler}
use Rattle.relay_store.proofs.Handled.{finishes}
use Rattle.relay_store.proofs.sender.RelaySender.finish.Goals as goal

pub returns-clause-finished : goal.returns-clause-finished
returns-clause-finished g c =
    let next = next_view c.settle-next.result.0 in
    let had = g.S.LostSink.named c.args.sink.now in
    let has = g.S.LostSink.named c.end_named-unnamed.new.sink in
    let new : Handler =
    record { sender = c.trim.new.self; sent = sent_in c.settle-next.new.account } in
    subst (λ h. Finishes c.args.now c.args.word h next new had has) c.self.view_is
    (finishes c.args.now c.args.word c.self.inside.sender c.settle-next.new.sender
    c.trim.new.self c.self.inside.account c.settle-next.new.account next
    (bodies_view c.settle-next.result.1.bodies.items) had has c.self.invariant
    c.settle-next.ensures.judged c.trim.ensures c.settle-next.ensures.noted
    (subst (λ names. Gains (names_after next (bodies_view c.settle-next.result.1.bodies.items))
    had names) (sym c.end_named-unnamed.ensures)
    (subst (λ bodies. Gains (names_after next (bodies_view bodies)) had
    (g.S.LostSink.named c.name_by.new.sink))
    c.deref-3.ensures.value c.name_by.ensures)))
