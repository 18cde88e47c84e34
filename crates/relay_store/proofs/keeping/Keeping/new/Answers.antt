use Rattle.std.proofs.Common.{◌∙◌, [], ap, arith, sym}
use Rattle.model_body.specs.Desks.{BodyDesk}
use Rattle.relay_store.proofs.Sound.{sound-none}
use Rattle.relay_store.proofs.keeping.Keeping.new.Goals as goal

pub invariant_of-result : goal.invariant_of-result
invariant_of-result g c =
    sound-none g.D.Device.is_known g.D.Device.files g.D.Device.moment g.D.Device.left_at
    _ (record { events = []; is = c.new.ensures.history })
    (ap (λ (d : BodyDesk). d.kept) c.new.ensures.desk) (λ known spooled failed. c.requires known)
    (omega arith)
    (λ known spooled failed.
    (sym c.is_some.ensures ∙ spooled, omega arith, c.next_of-next.ensures known (c.requires known)))
