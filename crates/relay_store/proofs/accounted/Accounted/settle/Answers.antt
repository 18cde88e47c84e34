use Rattle.std.proofs.Common.{◌≡◌, ◌∙◌, ap, inl, inr, subst, sym}
use Rattle.retry_core.specs.Retries.{next_view}
use Rattle.relay_queue.specs.Bodies.{bodies_view}
use Rattle.relay_store.specs.Kept.{Kept}
use Rattle.relay_store.proofs.Basics.{true-false}
use Rattle.relay_store.specs.Accounts.{freed_from, noted_from, sent_in}
use Rattle.relay_store.specs.Agreement.{Agrees, IsInOrder}
use Rattle.relay_store.proofs.Known.{Knows, closed-none, ended-is, known-send, knows, note-step}
use Rattle.relay_store.proofs.Order.{order-failed, order-settle}
use Rattle.relay_store.proofs.Steps.{free-step}
use Rattle.relay_store.proofs.accounted.Accounted.settle.Goals as goal
use Rattle.relay_store.proofs.accounted.Accounted.settle.Goals.{then-self, else-self}

pub invariant_of-self : goal.invariant_of-self
invariant_of-self g c =
    let old = c.self.inside.keeping in
    let new = c.settle-next.new.self in
    let same : new.is_spooled ≡ old.is_spooled =
    ap (λ (k : Kept _). k.is_spooled) c.settle-next.ensures.only in
    let sent = sent_in c.args.account.now in
    let turn = (c.self.invariant.agrees.none c.if-self.true).2 in
    let none =
    closed-none old.desk new.desk (next_view c.settle-next.result.0)
    (bodies_view c.settle-next.result.1.bodies.items) turn c.settle-next.ensures.noted in
    known-send old.desk new.desk old.is_spooled new.is_spooled c.self.inside.is_closed
    c.self.inside.is_closed
    (IsInOrder g.D.Device.is_known g.D.Device.files old c.self.inside.is_reopened)
    (IsInOrder g.D.Device.is_known g.D.Device.files new c.self.inside.is_reopened)
    c.self.inside.book c.record.new.self c.args.account.now
    c.record.new.account c.self.invariant c.record.ensures.book (freed_from sent)
    c.requires.said c.record.ensures.account
    (λ p gave a.
    subst (λ b. Agrees new.desk b c.self.inside.is_closed p (freed_from sent) gave) (sym same)
    (subst (λ b. Agrees new.desk old.is_spooled b p (freed_from sent) gave) (sym c.if-self.true)
    (free-step old.desk new.desk old.is_spooled p sent gave none.1
    (subst (λ b. Agrees old.desk old.is_spooled b p sent gave) c.if-self.true a))))
    (λ p ordered.
    order-failed g.D.Device.is_known g.D.Device.files new c.self.inside.is_reopened p
    (freed_from sent)
    (λ is. absurd (true-false (sym is
    ∙ (same ∙ (c.self.invariant.agrees.none c.if-self.true).0)))))

pub invariant_of-self-else-self : goal.invariant_of-self-else-self
invariant_of-self-else-self g c =
    let old = c.self.inside.keeping in
    let new = c.settle-next.new.self in
    let same : new.is_spooled ≡ old.is_spooled =
    ap (λ (k : Kept _). k.is_spooled) c.settle-next.ensures.only in
    let sent = sent_in c.args.account.now in
    let next = next_view c.settle-next.result.0 in
    known-send old.desk new.desk old.is_spooled new.is_spooled c.self.inside.is_closed
    c.self.inside.is_closed
    (IsInOrder g.D.Device.is_known g.D.Device.files old c.self.inside.is_reopened)
    (IsInOrder g.D.Device.is_known g.D.Device.files new c.self.inside.is_reopened)
    c.self.inside.book c.record-else-self.new.self c.args.account.now
    c.record-else-self.new.account c.self.invariant c.record-else-self.ensures.book
    (noted_from next sent) c.requires.said c.record-else-self.ensures.account
    (λ p gave a.
    subst (λ b. Agrees new.desk b c.self.inside.is_closed p (noted_from next sent) gave)
    (sym same)
    (subst (λ b. Agrees new.desk old.is_spooled b p (noted_from next sent) gave)
    (sym c.if-self.false)
    (note-step old.desk new.desk old.is_spooled p sent gave next
    (bodies_view c.settle-next.result.1.bodies.items) c.requires.out c.settle-next.ensures.noted
    (subst (λ b. Agrees old.desk old.is_spooled b p sent gave) c.if-self.false a))))
    (λ p.
    order-settle g.D.Device.is_known g.D.Device.files old new c.self.inside.is_reopened next
    (bodies_view c.settle-next.result.1.bodies.items) sent
    (ended-is old.desk new.desk old.is_spooled sent next
    (bodies_view c.settle-next.result.1.bodies.items)
    (subst (λ b. Knows old.desk old.is_spooled b sent) c.if-self.false
    (knows old.desk new.desk old.is_spooled new.is_spooled c.self.inside.is_closed
    c.self.inside.is_closed
    (IsInOrder g.D.Device.is_known g.D.Device.files old c.self.inside.is_reopened)
    (IsInOrder g.D.Device.is_known g.D.Device.files new c.self.inside.is_reopened)
    c.self.inside.book c.record-else-self.new.self c.args.account.now
    c.record-else-self.new.account c.self.invariant c.record-else-self.ensures.book
    c.requires.said))
    c.requires.out c.settle-next.ensures.noted)
    same (ap (λ (k : Kept _). k.has_failed) c.settle-next.ensures.only)
    c.settle-next.ensures.remaining p)

pub returns-clause-noted : goal.returns-clause-noted
returns-clause-noted g c =
    let old = c.self.inside.keeping in
    let new = c.settle-next.new.self in
    let next = next_view c.settle-next.result.0 in
    let ended = bodies_view c.settle-next.result.1.bodies.items in
    elim c.if-self.branch [
      | then-self w ↦
          inr (record {
            none = (closed-none old.desk new.desk next ended
                (c.self.invariant.agrees.none w.if-self.true).2 c.settle-next.ensures.noted).0;
            said_is = w.account-is ∙ w.record.ensures.account;
          })
      | else-self w ↦
          inl (record {
            ended_are =
                ended-is old.desk new.desk old.is_spooled (sent_in c.args.account.now) next ended
                (subst (λ b. Knows old.desk old.is_spooled b (sent_in c.args.account.now))
                w.if-self.false
                (knows old.desk new.desk old.is_spooled new.is_spooled c.self.inside.is_closed
                c.self.inside.is_closed
                (IsInOrder g.D.Device.is_known g.D.Device.files old c.self.inside.is_reopened)
                (IsInOrder g.D.Device.is_known g.D.Device.files new c.self.inside.is_reopened)
                c.self.inside.book w.record-else-self.new.self
                c.args.account.now w.record-else-self.new.account c.self.invariant
                w.record-else-self.ensures.book c.requires.said))
                c.requires.out c.settle-next.ensures.noted;
            said_is = w.account-is ∙ w.record-else-self.ensures.account;
          })
    ]
