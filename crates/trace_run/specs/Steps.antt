-- What steps are in the model.
use Rattle.std.specs.Prelude.{string_bytes}
use Rattle.model_run.specs.Steps.{Parent, root, numbered, given, Step, start, call, flush, shutdown}
use Rattle.model_run.specs.Steps.{take, encode, attempt, reply}
use Rattle.otlp_ids.specs.SpanContext.{context_view}
use Rattle.otlp_span.specs.Parts.{kind_view, call_view}
use Rattle.trace_run.specs.declared.step.Parent.{Parent as CodeParent}
use Rattle.trace_run.specs.declared.step.Parent.TheVariants as parents
use Rattle.trace_run.specs.declared.step.Step.{Step as CodeStep}
use Rattle.trace_run.specs.declared.step.Step.TheVariants as steps

abbrev pub parent_name_view : {A : Type 0} → CodeParent A → Parent
parent_name_view parents.Root = root
parent_name_view (parents.Span number) = numbered number
parent_name_view (parents.Given context) = given (context_view context)

abbrev pub step_view : {A : Type 0} → CodeStep A → Step
step_view (steps.Start number parent kind at name) =
    start number (parent_name_view parent) (kind_view kind) at (string_bytes name)
step_view (steps.Call span called) = call span (call_view called)
step_view steps.Flush = flush
step_view steps.Shutdown = shutdown
step_view (steps.Take at) = take at
step_view steps.Encode = encode
step_view (steps.Attempt at) = attempt at
step_view (steps.Reply at word) = reply at word
