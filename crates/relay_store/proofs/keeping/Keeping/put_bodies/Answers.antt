use Rattle.std.proofs.Common.{◌≡◌, ◌∙◌, ◌++◌, ap, arith, refl, subst}
use Rattle.relay_queue.specs.Bodies.{bodies_view}
use Rattle.spool.specs.Spools.{numbered_from}
use Rattle.relay_store.specs.Fronts.{bodies_of, spool_waiting}
use Rattle.relay_store.specs.Kept.{Kept, remaining_in}
use Rattle.relay_store.proofs.Remaining.{remaining-put}
use Rattle.relay_store.proofs.Sound.{sound-put}
use Rattle.relay_store.proofs.keeping.Keeping.put_bodies.Goals as goal

pub invariant_of-self : goal.invariant_of-self
invariant_of-self g c =
    sound-put g.D.Device.is_known g.D.Device.files g.D.Device.moment g.D.Device.left_at
    c.self.inside _ (bodies_view c.args.bodies.now) c.self.invariant c.if-self.false
    c.in-Ok.ensures.there c.in-Ok.ensures.put c.in-Ok.ensures.next
    (c.in-Ok.ensures.stays c.in-Ok.ensures.there) refl refl refl

pub returns-in-Ok-clause-remaining : goal.returns-in-Ok-clause-remaining
returns-in-Ok-clause-remaining g c = λ known.
    let files = g.D.Device.files in
    let bodies = bodies_view c.args.bodies.now in
    let old = c.self.inside in
    let was = c.self.invariant.numbered known
    (ap (λ (k : Kept _). k.is_spooled) c.self.view_is ∙ c.requires) c.if-self.false in
    subst (λ (k : Kept _). bodies_of (numbered_from old.first
    (spool_waiting files c.put_into.new.spool)) ≡ remaining_in files k ++ bodies) c.self.view_is
    (remaining-put files g.D.Device.moment g.D.Device.left_at old.first bodies old.spool
    c.put_into.new.spool (omega (arith, was.1, was.2)) (c.in-Ok.ensures.put known))
