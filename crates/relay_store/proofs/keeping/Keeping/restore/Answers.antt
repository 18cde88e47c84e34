use Rattle.std.proofs.Common.{◌∙◌, [], ap, arith, refl, sym}
use Rattle.model_body.specs.Desks.{BodyDesk}
use Rattle.relay_store.proofs.Sound.{sound-none}
use Rattle.relay_store.proofs.keeping.Keeping.restore.Goals as goal

pub invariant_of-self : goal.invariant_of-self
invariant_of-self g c =
    sound-none g.D.Device.is_known g.D.Device.files g.D.Device.moment g.D.Device.left_at
    _ (record { events = []; is = c.new.ensures.history })
    (ap (λ (d : BodyDesk). d.kept) c.new.ensures.desk)
    (λ known spooled failed. c.note_into-self-inside.ensures.settled failed known)
    (omega arith)
    (λ known spooled failed. (
      c.note_into-self-inside.ensures.stays refl,
      omega (arith, c.min-self-inside.ensures),
      c.next_number-self-inside.ensures known (c.requires known)
          ∙ sym (c.note_into-self-inside.ensures.next failed known),
    ))
