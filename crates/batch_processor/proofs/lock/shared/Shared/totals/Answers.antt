use Rattle.std.proofs.Common.{List, sym, subst}
use Rattle.model_processor.specs.AnyAccounts.{AnyAccount}
use Rattle.model_processor.specs.Kept.{IsShared}
use Rattle.batch_processor.specs.Holds.{Counts, Guarded}
use Rattle.batch_processor.specs.Views.{setup_view}
use Rattle.batch_processor.proofs.Holds.{known_hold}
use Rattle.batch_processor.proofs.lock.shared.Shared.totals.Goals as goal

pub returns-clause-counts : goal.returns-clause-counts
returns-clause-counts g c =
    let origin = setup_view c.self.inside.setup in
    let hold =
    known_hold origin c.self.inside.left c.self.inside.desk c.self.inside.book c.args.account.now
    c.args.self.now c.self.invariant c.recognize.ensures.there c.requires c.self.view_is in
    let e = c.totals.ensures in
    let counts : Counts c.self.inside.desk c.totals.result = record {
      accepted = e.accepted;
      taken = e.taken;
      handed = e.handed;
      lost = e.lost;
      left = e.left;
      late = e.late;
      dropped = e.dropped;
      fates = e.fates;
      closed = e.closed;
    } in
    record {
      hold = hold;
      counts = subst (λ (x : Guarded). Counts x.desk c.totals.result) c.self.view_is counts;
    }

pub invariant_of-self : goal.invariant_of-self
invariant_of-self g c =
    subst (λ (hs : List AnyAccount).
    IsShared (setup_view c.self.inside.setup) c.self.inside.left c.self.inside.desk hs)
    (sym c.recognize.ensures.book) c.self.invariant
