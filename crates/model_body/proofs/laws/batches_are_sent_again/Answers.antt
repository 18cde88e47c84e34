use Rattle.model_body.proofs.Losses.{lost_alone, refused_are_kept}
use Rattle.model_body.proofs.Retries.{retry_repeats}
use Rattle.model_body.proofs.laws.batches_are_sent_again.Goals as goal

pub returns : goal.returns
returns c = record { retry = retry_repeats; split = refused_are_kept; alone = lost_alone }
