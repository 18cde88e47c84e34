-- What encodings answer.
use Rattle.std.proofs.Common.{ap, subst, ◌∙◌, Some}
use Rattle.model_desk.specs.Queue.{drops, entries_by}
use Rattle.model_desk.specs.Queue as desk
use Rattle.model_desk.proofs.Lists.{gather-more}
use Rattle.model_run.specs.Runs.{event_by, desk_events}
use Rattle.model_run.proofs.More.{events-more}
use Rattle.model_run.specs.Laws.{OfHistories, OfRuns, EncodedWhereItFits, DroppedUnencoded}
use Rattle.model_run.specs.Laws.{DroppedBatchIsNamed}
use Rattle.model_run.proofs.RightHistories.{answer-at}
use Rattle.model_run.proofs.Attempts.{Told, told}

-- A batch has a body only where the body is no larger than it may be.
pub encoded-where-it-fits : OfRuns EncodedWhereItFits
encoded-where-it-fits run h w before later x e number size k =
    let s =
    subst (Told run before x.step) k (told run before x (answer-at run h w before later x e)) in
    (s.1, s.2, s.3)

-- A batch is dropped only in place of its encoding: for want of memory or for a body too large.
pub dropped-unencoded : OfRuns DroppedUnencoded
dropped-unencoded run h w before later x e number reason k =
    subst (Told run before x.step) k (told run before x (answer-at run h w before later x e))

-- The spans of a dropped batch are named for its reason, in their order, and no others.
pub dropped-batch-is-named : OfHistories DroppedBatchIsNamed
dropped-batch-is-named setup h before later x e number reason k =
    ap drops
    (events-more setup before x (Some (desk.dropped reason))
    (ap (λ a. event_by setup before a x.step) k))
    ∙ gather-more entries_by (desk_events setup before) (desk.dropped reason)
