use Rattle.std.proofs.Common.{◌≡◌, refl, rules, subst}
use Rattle.spool.specs.Spools.{numbered_from}
use Rattle.relay_store.specs.Fronts.{bodies_of, spool_waiting}
use Rattle.relay_store.specs.Kept.{Kept, remaining_in}
use Rattle.relay_store.proofs.Remaining.{remaining-noted}
use Rattle.relay_store.proofs.Sound.{sound-noted}
use Rattle.relay_store.proofs.keeping.Keeping.note.Goals as goal

pub invariant_of-self : goal.invariant_of-self
invariant_of-self g c =
    sound-noted g.D.Device.is_known g.D.Device.files g.D.Device.moment g.D.Device.left_at
    c.self.inside _ c.self.invariant (search rules) refl refl refl refl
    c.note_into-self-inside.ensures.there c.note_into-self-inside.ensures.stays
    (λ known is not. c.note_into-self-inside.ensures.settled not known)
    (λ known not. c.note_into-self-inside.ensures.noted not known)
    (λ known not. c.note_into-self-inside.ensures.next not known)

pub returns-then-not-self-clause-remaining : goal.returns-then-not-self-clause-remaining
returns-then-not-self-clause-remaining g c = λ known is not.
    let files = g.D.Device.files in
    let old = c.self.inside in
    subst (λ (k : Kept _). bodies_of (numbered_from old.first
    (spool_waiting files c.note_into-self-inside.new.spool)) ≡ remaining_in files k) c.self.view_is
    (remaining-noted old.first (spool_waiting files old.spool)
    (spool_waiting files c.note_into-self-inside.new.spool)
    (c.note_into-self-inside.ensures.noted not known))
