use Rattle.std.proofs.Common.{refl, subst, sym}
use Rattle.model_processor.specs.AnyAccounts.{AnyAccount}
use Rattle.batch_processor.specs.Holds.{IsBatchOf, IsNamedBatchOf}
use Rattle.batch_processor.proofs.lock.Holder.drop_batch.Goals as goal

pub drop_batch-after-requires-clause-out : goal.drop_batch-after-requires-clause-out
drop_batch-after-requires-clause-out g c =
    let x =
    subst (λ (h : AnyAccount). IsBatchOf h c.args.batch) (sym c.self.view_is) c.requires.out in
    subst (IsNamedBatchOf c.self.inside.account) (sym c.into_named-batch.ensures)
    (record { spans = c.args.batch.spans; out = x.out; entries = refl; room = x.room })
