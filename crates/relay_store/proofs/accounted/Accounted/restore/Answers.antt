use Rattle.std.proofs.Common.{◌≡◌, ◌∙◌, ap, subst, sym, true}
use Rattle.model_body.specs.Desks.{BodyDesk}
use Rattle.relay_store.specs.Kept.{Kept}
use Rattle.relay_store.specs.Accounts.{returned_from, sends, sent_in}
use Rattle.relay_store.specs.Agreement.{Agrees, IsInOrder}
use Rattle.relay_store.proofs.Known.{known-send}
use Rattle.relay_store.proofs.Order.{order-again}
use Rattle.relay_store.proofs.Steps.{return-step}
use Rattle.relay_store.proofs.accounted.Accounted.restore.Goals as goal

pub invariant_of-self : goal.invariant_of-self
invariant_of-self g c =
    let old = c.self.inside.keeping in
    let new = c.restore.new.self in
    let was : old.is_spooled ≡ true = sym c.is_spooled.ensures ∙ c.if-not-is_spooled.false in
    let now : new.is_spooled ≡ true =
    ap (λ (k : Kept _). k.is_spooled) c.restore.ensures.only in
    let sent = sent_in c.args.account.now in
    known-send old.desk new.desk old.is_spooled new.is_spooled c.self.inside.is_closed
    c.self.inside.is_closed
    (IsInOrder g.D.Device.is_known g.D.Device.files old c.self.inside.is_reopened)
    (IsInOrder g.D.Device.is_known g.D.Device.files new true)
    c.self.inside.book c.record.new.self c.args.account.now
    c.record.new.account c.self.invariant c.record.ensures.book
    (returned_from old.desk.kept sent) c.requires.said
    (c.record.ensures.account
    ∙ ap (λ (k : Kept _). sends (returned_from k.desk.kept sent)) c.of-seen.ensures)
    (λ p gave a.
    subst
    (λ b. Agrees new.desk b c.self.inside.is_closed p (returned_from old.desk.kept sent) gave)
    (was ∙ sym now)
    (return-step old.desk new.desk old.is_spooled p sent gave c.self.inside.is_closed was
    (ap (λ (d : BodyDesk). d.kept) c.restore.ensures.desk)
    (ap (λ (d : BodyDesk). d.turn) c.restore.ensures.desk) a))
    (λ p ordered.
    order-again g.D.Device.is_known g.D.Device.files new p (returned_from old.desk.kept sent))
