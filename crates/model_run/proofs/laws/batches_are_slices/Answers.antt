use Rattle.model_run.proofs.Batches.{batches-first, batches-stay, batches-are-taken, last-is-last}
use Rattle.model_run.proofs.laws.batches_are_slices.Goals as goal

pub returns : goal.returns
returns c = record {
  first = batches-first;
  stay = batches-stay;
  all = batches-are-taken;
  last = last-is-last;
}
