use Rattle.std.proofs.Common.{◌≡◌, ◌∙◌, ap, refl, subst, sym}
use Rattle.relay_store.specs.Kept.{Kept}
use Rattle.relay_store.specs.Accounts.{read_from, sends, sent_in}
use Rattle.relay_store.specs.Agreement.{Agrees, IsInOrder}
use Rattle.relay_store.proofs.Known.{known-send}
use Rattle.relay_store.proofs.Order.{order-same}
use Rattle.relay_store.proofs.Steps.{read-step}
use Rattle.relay_store.proofs.accounted.Accounted.refill.Goals as goal

pub invariant_of-self-then-is_read : goal.invariant_of-self-then-is_read
invariant_of-self-then-is_read g c =
    let old = c.self.inside.keeping in
    let new = c.refill.new.self in
    let only = c.in_ok-is_read.ensures.only in
    let same : new.is_spooled ≡ old.is_spooled = ap (λ (k : Kept _). k.is_spooled) only in
    let sent = sent_in c.args.account.now in
    known-send old.desk new.desk old.is_spooled new.is_spooled c.self.inside.is_closed
    c.self.inside.is_closed
    (IsInOrder g.D.Device.is_known g.D.Device.files old c.self.inside.is_reopened)
    (IsInOrder g.D.Device.is_known g.D.Device.files new c.self.inside.is_reopened)
    c.self.inside.book c.record.new.self c.args.account.now
    c.record.new.account c.self.invariant c.record.ensures.book (read_from new.desk.kept sent)
    c.requires
    (c.record.ensures.account
    ∙ ap (λ (k : Kept _). sends (read_from k.desk.kept sent)) c.of-seen.ensures)
    (λ p gave a.
    subst (λ b. Agrees new.desk b c.self.inside.is_closed p (read_from new.desk.kept sent) gave)
    (sym same)
    (read-step old.desk new.desk old.is_spooled p sent gave c.self.inside.is_closed
    new.desk.kept new.desk.admitted (c.in_ok-is_read.ensures.spooled c.if-is_read.true)
    (c.in_ok-is_read.ensures.some c.if-is_read.true).0 (ap (λ (k : Kept _). k.desk) only) a))
    (λ p.
    order-same g.D.Device.is_known g.D.Device.files old new c.self.inside.is_reopened same
    c.refill.ensures.stays c.refill.ensures.remaining p sent
    (read_from new.desk.kept sent) refl refl)
