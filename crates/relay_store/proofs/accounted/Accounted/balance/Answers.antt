use Rattle.std.proofs.Common.{◌∙◌, List, subst, sym}
use Rattle.std.specs.Prelude.{Contains}
use Rattle.relay_store.specs.Accounts.{Said}
use Rattle.relay_store.proofs.Balance.{balances, never-failed}
use Rattle.relay_store.proofs.accounted.Accounted.balance.Goals as goal

pub returns-clause-balance : goal.returns-clause-balance
returns-clause-balance g c =
    let kept = c.self.inside.keeping in
    let failed = never-failed c.self.inside.is_reopened c.has_failed.result in
    balances g.D.Device.is_known g.D.Device.files kept c.self.inside.is_closed
    c.self.inside.is_reopened _ c.self.inside.book c.args.poster.now c.args.sender.now
    c.args.closer.now c.self.invariant
    (record {
      spooled = c.is_spooled.ensures;
      failed = λ e. sym c.has_failed.ensures ∙ (failed (sym c.is_either.ensures ∙ e)).1;
      once = λ e. (failed (sym c.is_either.ensures ∙ e)).0;
      count = c.kept_count.ensures.count;
      few = c.kept_count.ensures.few;
    })
    c.requires.poster c.requires.sender c.requires.closer c.recognize.ensures.there
    (subst (λ (l : List Said). Contains l c.args.sender.now) c.recognize.ensures.book
    c.recognize-2.ensures.there)
    (subst (λ (l : List Said). Contains l c.args.closer.now)
    (c.recognize-2.ensures.book ∙ c.recognize.ensures.book) c.recognize-3.ensures.there)
