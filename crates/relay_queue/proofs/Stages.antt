-- How far a sender is, and where the last batch of a desk is.
use Rattle.std.proofs.Common.{◌≡◌, refl, ap, ◌∙◌, true, false}
use Rattle.model_body.specs.Histories.{Turn, idle, is_out, again}
use Rattle.relay_queue.specs.Senders.{Sender, Stage, no_batch, to_send, to_judge, to_retry}
use Rattle.relay_queue.specs.Senders.{has_batch}
use Rattle.relay_queue.specs.Senders.{is_pending}
use Rattle.relay_queue.specs.Steps.{is_again}

-- A batch in hand that was not sent is to be sent.
pub ready_stage : (s : Stage) → has_batch s ≡ true → is_pending s ≡ false → s ≡ to_send
ready_stage no_batch b p = absurd cc
ready_stage to_send b p = refl
ready_stage (to_judge outcome) b p = absurd cc
ready_stage (to_retry moment) b p = absurd cc

-- whether the last batch is to be sent again
pub again_turn : (t : Turn) → t ≡ again → is_again t ≡ true
again_turn idle e = absurd cc
again_turn is_out e = absurd cc
again_turn again e = refl

-- It isn't, where it ended or is out.
pub other_turn : (t : Turn) → (t ≡ again → ⊥) → is_again t ≡ false
other_turn idle h = refl
other_turn is_out h = refl
other_turn again h = absurd (h refl)

-- A sender that is another one has no batch where that has none.
pub free_of : (v w : Sender) → w ≡ v → has_batch v.stage ≡ false → has_batch w.stage ≡ false
free_of v w e h = ap (λ (s : Sender). has_batch s.stage) e ∙ h
