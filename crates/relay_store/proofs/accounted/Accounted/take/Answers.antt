use Rattle.std.proofs.Common.{◌≡◌, ◌∙◌, ap, refl, subst, sym}
use Rattle.relay_store.specs.Kept.{Kept, remaining_in}
use Rattle.relay_store.specs.Accounts.{last_batch, sends, sent_in, taken_from}
use Rattle.relay_store.specs.Agreement.{Agrees, IsInOrder}
use Rattle.relay_store.proofs.Known.{Knows, known-send, knows, may-open, may-within, takes-batch}
use Rattle.relay_store.proofs.Order.{order-same}
use Rattle.relay_store.proofs.Steps.{take-step}
use Rattle.relay_store.proofs.accounted.Accounted.take.Goals as goal

pub invariant_of-self-2 : goal.invariant_of-self-2
invariant_of-self-2 g c =
    let old = c.self.inside.keeping in
    let new = c.take.new.self in
    let same : new.is_spooled ≡ old.is_spooled =
    ap (λ (k : Kept _). k.is_spooled) (c.in_ok-take.ensures.counted c.if-not-branch.false) in
    let failed : new.has_failed ≡ old.has_failed =
    ap (λ (k : Kept _). k.has_failed) (c.in_ok-take.ensures.counted c.if-not-branch.false) in
    let left : remaining_in g.D.Device.files new ≡ remaining_in g.D.Device.files old =
    ap (remaining_in g.D.Device.files) (c.in_ok-take.ensures.counted c.if-not-branch.false) in
    let sent = sent_in c.args.account.now in
    let takes = c.in_ok-take.ensures.taken c.if-not-branch.false in
    let closed = c.self.inside.is_closed in
    let batch = last_batch new.desk in
    known-send old.desk new.desk old.is_spooled new.is_spooled closed closed
    (IsInOrder g.D.Device.is_known g.D.Device.files old c.self.inside.is_reopened)
    (IsInOrder g.D.Device.is_known g.D.Device.files new c.self.inside.is_reopened)
    c.self.inside.book c.record.new.self c.args.account.now c.record.new.account c.self.invariant
    c.record.ensures.book (taken_from batch sent) c.requires.said
    (c.record.ensures.account
    ∙ ap (λ (k : Kept _). sends (taken_from (last_batch k.desk) sent)) c.of-seen.ensures)
    (λ p gave a.
    let opened = may-open old.desk old.is_spooled closed p sent gave takes.count a takes.may in
    subst (λ b. Agrees new.desk b closed p (taken_from batch sent) gave) (sym same)
    (subst (λ b. Agrees new.desk old.is_spooled b p (taken_from batch sent) gave) (sym opened)
    (take-step old.desk new.desk old.is_spooled p sent gave takes.count takes.desk_is
    (may-within old.desk old.is_spooled closed p sent gave takes.count a takes.may)
    (subst (λ b. Agrees old.desk old.is_spooled b p sent gave) opened a))))
    (λ p.
    order-same g.D.Device.is_known g.D.Device.files old new c.self.inside.is_reopened same
    (λ e. failed ∙ e) (λ known is not. left) p sent (taken_from batch sent) refl refl)

pub returns-clause-taken : goal.returns-clause-taken
returns-clause-taken g c =
    λ e.
    let old = c.self.inside.keeping in
    let new = c.take.new.self in
    let sent = sent_in c.args.account.now in
    let takes = c.in_ok-take.ensures.taken c.if-not-branch.false in
    let closed = c.self.inside.is_closed in
    let w =
    knows old.desk new.desk old.is_spooled new.is_spooled closed closed
    (IsInOrder g.D.Device.is_known g.D.Device.files old c.self.inside.is_reopened)
    (IsInOrder g.D.Device.is_known g.D.Device.files new c.self.inside.is_reopened)
    c.self.inside.book c.record.new.self c.args.account.now c.record.new.account c.self.invariant
    c.record.ensures.book c.requires.said in
    let opened =
    may-open old.desk old.is_spooled closed w.posted sent w.gave takes.count w.agrees
    takes.may in
    takes-batch c.args.sender.now c.take.new.sender old.desk new.desk
    c.of-seen.result.value.desk old.is_spooled c.args.account.now c.record.new.account
    (subst (λ b. Knows old.desk old.is_spooled b sent) opened w)
    (ap (λ (k : Kept _). k.desk) c.of-seen.ensures) takes c.record.ensures.account
