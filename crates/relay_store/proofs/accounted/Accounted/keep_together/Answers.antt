use Rattle.std.proofs.Common.{◌≡◌, ◌∙◌, ◌++◌, ap, subst, sym, true}
use Rattle.relay_queue.specs.Bodies.{bodies_view}
use Rattle.relay_store.specs.Kept.{Kept, PutsAll, remaining_in}
use Rattle.relay_store.specs.Agreement.{Agrees, IsInOrder}
use Rattle.relay_store.proofs.Handled.{at-ok}
use Rattle.relay_store.proofs.Known.{known-post}
use Rattle.relay_store.proofs.Order.{order-put}
use Rattle.relay_store.proofs.Steps.{put-step, same-step}
use Rattle.relay_store.proofs.Together.{kept-together}
use Rattle.relay_store.proofs.accounted.Accounted.keep_together.Goals as goal

pub invariant_of-self-2 : goal.invariant_of-self-2
invariant_of-self-2 g c =
    let old = c.self.inside.keeping in
    let new = c.keep_together.new.self in
    let well = sym c.if-is_err.ensures.value in
    let is : old.is_spooled ≡ true =
    at-ok c.keep_together.result well c.keep_together.ensures.spooled in
    let only = at-ok c.keep_together.result well c.keep_together.ensures.put_only in
    let bodies = bodies_view c.args.bodies.now.items in
    let closed = c.self.inside.is_closed in
    known-post old.desk new.desk old.is_spooled new.is_spooled closed closed
    (IsInOrder g.D.Device.is_known g.D.Device.files old c.self.inside.is_reopened)
    (IsInOrder g.D.Device.is_known g.D.Device.files new c.self.inside.is_reopened)
    c.self.inside.book c.record.new.self c.args.account.now c.record.new.account c.self.invariant
    c.record.ensures.book bodies c.requires c.record.ensures.account
    (λ p s gave a.
    same-step old.desk new.desk true new.is_spooled closed (p ++ bodies) s gave
    (ap (λ (k : Kept _). k.desk) only) (ap (λ (k : Kept _). k.is_spooled) only ∙ is)
    (put-step old.desk closed p bodies s gave
    (subst (λ b. Agrees old.desk b closed p s gave) is a)))
    (λ p s.
    order-put g.D.Device.is_known g.D.Device.files old new c.self.inside.is_reopened bodies
    (ap (λ (k : Kept _). k.is_spooled) only) (ap (λ (k : Kept _). k.has_failed) only)
    (λ known spooled.
    at-ok c.keep_together.result well c.keep_together.ensures.remaining known
    ∙ ap (λ l. remaining_in g.D.Device.files old ++ bodies_view l) c.deref.ensures.value) p s)

pub returns-clause-kept : goal.returns-clause-kept
returns-clause-kept g c =
    λ e.
    let old = c.self.inside.keeping in
    let new = c.keep_together.new.self in
    let well = sym c.if-is_err.ensures.value in
    kept-together g.D.Device.is_known g.D.Device.files g.D.Device.moment g.D.Device.left_at
    c.args.bodies.now.items old new
    (at-ok c.keep_together.result well c.keep_together.ensures.spooled)
    (λ known.
    subst (λ bodies. PutsAll g.D.Device.files g.D.Device.moment g.D.Device.left_at
    (bodies_view bodies) old.spool new.spool)
    c.deref.ensures.value
    (at-ok c.keep_together.result well c.keep_together.ensures.put known))
