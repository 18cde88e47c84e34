-- What reasons and names of spans that aren't delivered are in the model.
use Rattle.model_span.specs.Dropped as model
use Rattle.otlp_span.specs.declared.reason.Reason.{Reason}
use Rattle.otlp_span.specs.declared.reason.Reason.TheVariants as reasons
use Rattle.otlp_span.specs.declared.slip.Entry.{Entry}

abbrev pub reason_view : Reason → model.Reason
reason_view reasons.QueueFull = model.queue_full
reason_view reasons.EncodeMemory = model.encode_memory
reason_view reasons.TooLarge = model.too_large
reason_view reasons.Abandoned = model.abandoned
reason_view (reasons.Refused status) = model.refused status
reason_view reasons.BadReply = model.bad_reply
reason_view reasons.GivenUp = model.given_up
reason_view reasons.LeftHanded = model.left_handed

abbrev pub entry_view : Entry → model.Entry
entry_view e = record {
  trace = e.trace.0;
  span = e.span.0;
  ticket = e.ticket;
  reason = reason_view e.reason;
}
