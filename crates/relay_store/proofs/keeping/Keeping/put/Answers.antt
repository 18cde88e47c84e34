use Rattle.std.proofs.Common.{◌∙◌, ◌++◌, ap, subst}
use Rattle.relay_queue.specs.Bodies.{bodies_view}
use Rattle.relay_store.specs.Kept.{PutsAll, remaining_in}
use Rattle.relay_store.proofs.Putting.{on-ok, puts-one}
use Rattle.relay_store.proofs.keeping.Keeping.put.Goals as goal

pub returns-clause-put : goal.returns-clause-put
returns-clause-put g c =
    on-ok c.put_bodies.result
    (λ puts known. puts-one g.D.Device.files g.D.Device.moment g.D.Device.left_at
    c.args.body.now.items _ _
    (subst (λ bodies. PutsAll g.D.Device.files g.D.Device.moment g.D.Device.left_at
    (bodies_view bodies) c.args.self.now.spool c.put_bodies.new.self.spool)
    c.from_ref.ensures.value (puts known)))
    c.put_bodies.ensures.put

pub returns-clause-remaining : goal.returns-clause-remaining
returns-clause-remaining g c =
    on-ok c.put_bodies.result
    (λ left known. left known
    ∙ ap (λ bodies. remaining_in g.D.Device.files c.args.self.now ++ bodies_view bodies)
    c.from_ref.ensures.value)
    c.put_bodies.ensures.remaining
