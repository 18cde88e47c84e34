use Rattle.std.proofs.Common.{refl, subst, sym}
use Rattle.model_processor.specs.AnyAccounts.{AnyAccount}
use Rattle.batch_processor.specs.Holds.{IsSentBatchOf, IsSettledBatchOf}
use Rattle.batch_processor.proofs.lock.Holder.settle.Goals as goal

pub settle-after-requires-clause-out : goal.settle-after-requires-clause-out
settle-after-requires-clause-out g c =
    let x =
    subst (λ (h : AnyAccount). IsSentBatchOf h c.args.batch) (sym c.self.view_is) c.requires.out in
    subst (IsSettledBatchOf c.self.inside.account) (sym c.settled_of-batch.ensures)
    (record {
      spans = c.args.batch.spans;
      body = x.body;
      out = x.out;
      entries = refl;
      room = x.room;
    })
