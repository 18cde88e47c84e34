-- What the spans of a script, and those that are kept for its body, are after some steps.
use Rattle.std.specs.Prelude.{◌≡◌, ℕ, ◌^◌, ◌<◌, ◌≤◌, Bool, true, false, List, [], ◌++◌}
use Rattle.std.specs.Prelude.{length, map, filter}
use Rattle.std.specs.Option.{option_to_list}
use Rattle.model_span.specs.Sampling.{SamplerMeaning}
use Rattle.model_span.specs.Spans.{SpanData}
use Rattle.model_run.specs.Steps.{Step, start}
use Rattle.model_run.specs.History.{SpanStep, Setup, ended_spans, span_step}
use Rattle.otlp_value.specs.Value.{attributes_view}
use Rattle.otlp_span.specs.Parts.{scope_view, limits_view}
use Rattle.trace_script.specs.declared.parse.Script.{Script}
use Rattle.trace_run.specs.Table.{IsTable, TableWith}
use Rattle.trace_api.specs.Pass.{Body}
use Rattle.trace_api.specs.Words.{stream}
use Rattle.trace_script.specs.Recorded.{meaning_of, words_of_list}
use Rattle.trace_script.specs.declared.sampler.ScriptSampler.{ScriptSampler}

-- what a script has before its first step
abbrev pub setup_view : {A : Type 0} → Script A → Setup
setup_view s = record {
  words = words_of_list s.words.items;
  provider = record {
    sampler = meaning_of s.sampler;
    resource = record { attributes = attributes_view s.resource.items; schema = [] };
    limits = limits_view s.limits;
  };
  scopes = map scope_view s.scopes.items;
}

-- whether a step is a start
abbrev pub begins : Step → Bool
begins (start scope parent kind at name) = true
begins _ = false

-- how many of these steps start a span
abbrev pub start_steps : List Step → ℕ
start_steps steps = length (filter begins steps)

abbrev pub meaning : ScriptSampler → SamplerMeaning
meaning s = meaning_of s.0

-- these spans are kept, and at most this many may be kept
abbrev pub keeping : List SpanData → ℕ → Body
keeping spans room = record { spans = spans; room = room; dropped = 0 }

-- The table has the spans of these steps, and those that they end are kept.
pub record Stands (setup : Setup) (done : List SpanStep) (table : TableWith ScriptSampler (List ℕ))
    (pass : Body) : Type 0 where
  pub spans : IsTable meaning stream setup done table
  pub kept : pass ≡ keeping (ended_spans setup done) table.room
  pub within : length table.spans ≤ table.room
  pub bound : table.room < 2 ^ 64

-- After these steps too it is so.
abbrev pub Records : List SpanStep → TableWith ScriptSampler (List ℕ) → Body
    → TableWith ScriptSampler (List ℕ) → Body → Type 0
Records more old before new after =
    (setup : Setup) (done : List SpanStep) → Stands setup done old before
    → Stands setup (done ++ more) new after

-- what a step is for the spans, where memory is not refused
abbrev pub granted : Step → List SpanStep
granted step = option_to_list (span_step false step)
