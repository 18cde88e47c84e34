use Rattle.std.proofs.Common.{◌≡◌, ◌∙◌, ◌++◌, Some, ap, false, subst, sym, true}
use Rattle.relay_queue.specs.Bodies.{bodies_view}
use Rattle.relay_store.specs.Kept.{Kept}
use Rattle.relay_store.proofs.Basics.{true-false}
use Rattle.relay_store.specs.Accounts.{given_up}
use Rattle.relay_store.specs.Agreement.{Agrees, IsInOrder}
use Rattle.relay_store.proofs.Known.{known-close}
use Rattle.relay_store.proofs.Order.{order-failed}
use Rattle.relay_store.proofs.Steps.{close-step}
use Rattle.relay_store.proofs.accounted.Accounted.give_up.Goals as goal

pub invariant_of-self : goal.invariant_of-self
invariant_of-self g c =
    let old = c.self.inside.keeping in
    let new = c.give_up-ended.new.self in
    let same : new.is_spooled ≡ old.is_spooled =
    ap (λ (k : Kept _). k.is_spooled) c.give_up-ended.ensures.only in
    let spooled : new.is_spooled ≡ false = sym c.is_spooled.ensures ∙ c.if-not-is_spooled.true in
    let was : old.is_spooled ≡ false = sym same ∙ spooled in
    let none = c.give_up-ended.ensures.none was in
    let all : bodies_view c.of-seen.result.value.items ≡ old.desk.kept =
    ap (λ v. bodies_view v.items) c.of-seen.ensures ∙ c.give_up-ended.ensures.bodies was in
    known-close old.desk new.desk old.is_spooled new.is_spooled c.self.inside.is_closed true
    (IsInOrder g.D.Device.is_known g.D.Device.files old c.self.inside.is_reopened)
    (IsInOrder g.D.Device.is_known g.D.Device.files new c.self.inside.is_reopened)
    c.self.inside.book c.record.new.self c.args.account.now c.record.new.account
    c.self.invariant c.record.ensures.book (bodies_view c.of-seen.result.value.items) c.requires
    c.record.ensures.account
    (λ p s gave a.
    subst (λ l. Agrees new.desk new.is_spooled true p s (Some (given_up gave ++ l))) (sym all)
    (subst (λ b. Agrees new.desk b true p s (Some (given_up gave ++ old.desk.kept)))
    (sym spooled)
    (close-step old.desk new.desk c.self.inside.is_closed p s gave none.0 none.1
    (subst (λ b. Agrees old.desk b c.self.inside.is_closed p s gave) was a))))
    (λ p s ordered.
    order-failed g.D.Device.is_known g.D.Device.files new c.self.inside.is_reopened p s
    (λ is. absurd (true-false (sym is ∙ spooled))))
