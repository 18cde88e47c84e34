use Rattle.std.proofs.Common.{◌≡◌, ◌+◌, List, ap, arith, subst}
use Rattle.std.specs.Prelude.{sum_by}
use Rattle.relay_queue.specs.Bodies.{bodies_view}
use Rattle.relay_store.specs.Accounts.{posted_in}
use Rattle.relay_store.specs.Holds.{KeepsInHold}
use Rattle.relay_store.specs.Sharing.{Keeper}
use Rattle.relay_store.specs.Together.{IsAt}
use Rattle.relay_store.proofs.Recalled.{sum-without}
use Rattle.relay_store.proofs.Together.{all-at}
use Rattle.relay_store.proofs.keeper.SharedKeeperBodyKeeper.recall.Goals as goal

pub returns-clause-kept : goal.returns-clause-kept
returns-clause-kept g c =
    λ e.
    let items = c.self.inside.recallable.items in
    let index = c.in-Some.index in
    let content = c.args.content.now in
    let left = c.remove-body.new.self.items in
    let posted = posted_in c.self.inside.account in
    let at : IsAt items index content =
    subst (λ (l : List _). IsAt l index content) c.deref.ensures.value c.in-Some.ensures in
    record {
      keeps =
          subst
          (KeepsInHold g.D.Device.is_known g.D.Device.files g.D.Device.moment
          g.D.Device.left_at) (at.1 c.remove-body.result)
          (all-at (λ v. KeepsInHold g.D.Device.is_known g.D.Device.files g.D.Device.moment
          g.D.Device.left_at v.items) items index c.remove-body.result at.0
          c.self.invariant.kept);
      one_more = λ f.
          subst
          (λ (k : Keeper). sum_by f posted + sum_by f k.recallable
          ≡ sum_by f k.posted + sum_by f (bodies_view left) + f content) c.self.view_is
          (omega (
            arith,
            sum-without f items index content at,
            ap (λ l. sum_by f (bodies_view l)) c.remove-body.ensures.items,
          ));
    }
