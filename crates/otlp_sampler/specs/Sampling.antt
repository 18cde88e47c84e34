-- What decisions and the arguments of a sampler are in the model.
use Rattle.std.specs.Prelude.{ℕ, List, Option}
use Rattle.model_span.specs.Sampling as model
use Rattle.model_span.specs.Spans.{Context}
use Rattle.otlp_ids.specs.declared.TraceId.{TraceId}
use Rattle.otlp_span.specs.declared.parts.Kind.{Kind}
use Rattle.otlp_span.specs.Parts.{kind_view}
use Rattle.otlp_sampler.specs.declared.sampling.Decision.{Decision}
use Rattle.otlp_sampler.specs.declared.sampling.Decision.TheVariants as decisions

abbrev pub decision_view : Decision → model.Decision
decision_view decisions.Drop = model.drop
decision_view decisions.RecordOnly = model.record_only
decision_view decisions.RecordAndSample = model.record_and_sample

-- the question that these arguments put
abbrev pub question : Option Context → TraceId → List ℕ → Kind → model.Question
question parent trace name kind = record {
  parent = parent;
  trace = trace.0;
  name = name;
  kind = kind_view kind;
}
