use Rattle.std.proofs.Common.{◌≡◌, ◌∙◌, ◌++◌, [], ap, inl, inr}
use Rattle.relay_queue.specs.Bodies.{bodies_view}
use Rattle.relay_store.specs.Accounts.{posted_in}
use Rattle.relay_store.specs.Sharing.{Keeper}
use Rattle.relay_store.proofs.keeper.SharedKeeperBodyKeeper.keep_collected.Goals as goal

pub returns-then-are_kept : goal.returns-then-are_kept
returns-then-are_kept g c =
    let bodies = bodies_view c.replace-bodies.result.items in
    let posted : posted_in c.keep_together-are_kept.new.account
    ≡ c.args.self.now.posted ++ bodies =
    ap posted_in (c.keep_together-are_kept.ensures.posted c.if-are_kept.true)
    ∙ ap (λ (k : Keeper). k.posted ++ bodies) c.self.view_is in
    let none : bodies_view c.replace-bodies.new.dest.items ≡ [] =
    ap (λ v. bodies_view v.items) c.replace-bodies.ensures.after
    ∙ ap bodies_view c.new.ensures.items in
    record {
      kept = inr (record {
        bodies = bodies;
        all_or_none =
            inl (ap (λ v. bodies_view v.items) c.replace-bodies.ensures.value
            ∙ ap (λ (k : Keeper). k.collected) c.self.view_is);
        new_is = λ i. record { posted = posted i; recallable = bodies; collected = none i };
      });
    }
