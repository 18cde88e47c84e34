use Rattle.std.proofs.Common.{◌∙◌, ◌≤◌, ap, arith, length, subst}
use Rattle.relay_store.specs.Kept.{Kept, remaining_in}
use Rattle.relay_store.proofs.Sound.{remaining-few}
use Rattle.relay_store.proofs.keeping.Keeping.kept_count.Goals as goal

pub returns-then-self-clause-few : goal.returns-then-self-clause-few
returns-then-self-clause-few g c = λ known is not.
    subst (λ (k : Kept _). length (remaining_in g.D.Device.files k) ≤ c.saturating_sub.result)
    c.self.view_is
    (omega (
      arith,
      c.saturating_sub.ensures,
      remaining-few g.D.Device.is_known g.D.Device.files g.D.Device.moment g.D.Device.left_at
          c.self.inside c.self.invariant known
          (ap (λ (k : Kept _). k.is_spooled) c.self.view_is ∙ is)
          (ap (λ (k : Kept _). k.has_failed) c.self.view_is ∙ not),
    ))
