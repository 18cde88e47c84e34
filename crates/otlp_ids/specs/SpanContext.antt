-- What a span context is in the model.
use Rattle.std.specs.Prelude.{Option, option_map, string_bytes}
use Rattle.std.specs.Borrow.{Bor}
use Rattle.std.specs.Option.{option_copied}
use Rattle.model_span.specs.Spans.{Context}
use Rattle.otlp_ids.specs.declared.SpanContext.{SpanContext}

abbrev pub context_view : {A : Type 0} → SpanContext A → Context
context_view c = record {
  trace = c.trace.0;
  span = c.span.0;
  flags = c.flags.0;
  remote = c.remote;
  state = string_bytes c.state;
}

-- the context that a caller lends, if it lends one
abbrev pub parent_view : {A : Type 0} → Option (Bor (SpanContext A)) → Option Context
parent_view parent = option_map context_view (option_copied parent)
