-- What a lost span is in the model.
use Rattle.model_desk.specs.Retries.{Fate}
use Rattle.model_body.specs.Names.{LostSpan as LostName}
use Rattle.relay_queue.specs.declared.lost.Loss.{Loss}
use Rattle.relay_queue.specs.declared.lost.Loss.TheVariants as losses
use Rattle.relay_queue.specs.declared.lost.LostSpan.{LostSpan}

-- how the body ended that a span was in
abbrev pub loss_view : Loss → Fate
loss_view (losses.Refused status) = Fate.refused status
loss_view losses.BadReply = Fate.bad_reply
loss_view losses.GivenUp = Fate.given_up
loss_view losses.Abandoned = Fate.abandoned

-- the name of a lost span
abbrev pub lost_view : LostSpan → LostName
lost_view lost = record {
  trace = lost.trace.items;
  span = lost.span.items;
  fate = loss_view lost.loss;
}
