-- What the state of a span is in the model.
use Rattle.model_span.specs.Starts as model
use Rattle.trace_api.specs.declared.span.State.{State}
use Rattle.trace_api.specs.declared.span.State.TheVariants as states

abbrev pub state_view : {A : Type 0} → State A → model.SpanState
state_view (states.Recording recorded) = model.recording recorded
state_view states.NotRecording = model.not_recording
state_view states.Ended = model.ended
