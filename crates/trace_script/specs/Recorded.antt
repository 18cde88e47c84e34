-- What a script runs on, and the spans that it ends.
use Rattle.std.specs.Prelude.{ℕ, List, [], map, slice_index, unwrap_or}
use Rattle.model_span.specs.Attributes.{attributes}
use Rattle.model_span.specs.Spans as model
use Rattle.model_span.specs.Sampling.{SamplerMeaning, always_on, always_off, as_parent}
use Rattle.model_span.specs.Identifiers.{Words}
use Rattle.model_span.specs.Spans.{default_limits}
use Rattle.model_run.specs.History.{Setup, ended_spans, granted_steps}
use Rattle.retry_core.specs.Retries.{default_retry}
use Rattle.model_run.specs.Answers.{RunConfig}
use Rattle.batch_desk.specs.Desk.{default_config}
use Rattle.trace_script.specs.Scripts.{Script, all_kept, kept_scope}
use Rattle.trace_script.specs.declared.sampler.SamplerName.{SamplerName}
use Rattle.trace_script.specs.declared.sampler.SamplerName.TheVariants.{AlwaysOn, AlwaysOff}
use Rattle.trace_script.specs.declared.sampler.SamplerName.TheVariants.{ParentBased}

-- what a sampler of this name decides; one by the parent asks the sampler that is always on about
-- roots (Trace SDK, Built-in samplers)
abbrev pub meaning_of : SamplerName → SamplerMeaning
meaning_of AlwaysOn = always_on
meaning_of AlwaysOff = always_off
meaning_of ParentBased = as_parent always_on

-- the words of a script, and zeros after them
abbrev pub words_of_list : List ℕ → Words
words_of_list words k = slice_index words k

-- what a script sets on its resource
abbrev pub resource_of : Script → model.Resource
resource_of s = record { attributes = (attributes all_kept s.resource).items; schema = [] }

-- What a script has before its first step. Where it names no sampler all spans are sampled, and
-- where it sets no limits they are the standard's. (Trace SDK, Span Limits)
abbrev pub setup_of : Script → Setup
setup_of s = record {
  words = words_of_list s.words;
  provider = record {
    sampler = meaning_of (unwrap_or s.sampler AlwaysOn);
    resource = resource_of s;
    limits = unwrap_or s.limits default_limits;
  };
  scopes = map kept_scope s.scopes;
}

-- the greatest body: 4 MiB where none is set (profile)
abbrev pub max_body_of : Script → ℕ
max_body_of s = unwrap_or s.max_body 4194304

-- The same, with the batch processor. Where the script sets no sizes they are the standard's. The
-- settings of retries are the default. (Trace SDK, Batching processor; retries: profile)
abbrev pub run_of : Script → RunConfig
run_of s = record {
  setup = setup_of s;
  desk = unwrap_or s.desk default_config;
  retry = default_retry;
  max_body = max_body_of s;
}

-- the spans that a script ends before its first shutdown, in the order of their ends
abbrev pub spans_of : Script → List model.SpanData
spans_of s = ended_spans (setup_of s) (granted_steps s.steps)
