-- What a script in the code is.
use Rattle.std.specs.Prelude.{◌≡◌, ℕ, List, map, unwrap_or, Result, Ok, Err}
use Rattle.model_span.specs.Attributes.{attributes}
use Rattle.otlp_value.specs.Value.{attributes_view}
use Rattle.otlp_span.specs.Parts.{limits_view, scope_view}
use Rattle.batch_desk.specs.Views.{config_view}
use Rattle.batch_desk.specs.Desk.{default_config}
use Rattle.retry_core.specs.Retries.{outcome_view}
use Rattle.trace_run.specs.Steps.{step_view}
use Rattle.model_span.specs.Spans.{default_limits}
use Rattle.trace_script.specs.Scripts.{Script, all_kept, kept_scope, IsLine}
use Rattle.trace_script.specs.declared.sampler.SamplerName.TheVariants.{AlwaysOn}
use Rattle.trace_script.specs.declared.parse.Script.{Script as CodeScript}
use Rattle.trace_script.specs.declared.parse.ScriptError.{ScriptError}
use Rattle.trace_script.specs.declared.parse.ScriptError.TheVariants.{BadLine, OutOfMemory}

-- The script in the code says the same. Its resource and its scopes have the attributes that are
-- left of those that were set. Where no sampler is named, all spans are sampled, and where no
-- limits are set, or no sizes of the batch processor, they are the standard's.
pub record Means {A : Type 0} (c : CodeScript A) (s : Script) : Type 0 where
  pub words : c.words.items ≡ s.words
  pub sampler : c.sampler ≡ unwrap_or s.sampler AlwaysOn
  pub limits : limits_view c.limits ≡ unwrap_or s.limits default_limits
  pub desk : config_view c.desk ≡ unwrap_or s.desk default_config
  pub max_body : c.max_body ≡ s.max_body
  pub resource : attributes_view c.resource.items ≡ (attributes all_kept s.resource).items
  pub scopes : map scope_view c.scopes.items ≡ map kept_scope s.scopes
  pub outcomes : map outcome_view c.outcomes.items ≡ s.outcomes
  pub steps : map step_view c.steps.items ≡ s.steps

-- What was parsed is what there is to read, unless memory was refused.
abbrev pub Parses : {A : Type 0} → Result (CodeScript A) ScriptError → Result Script ℕ → Type 0
Parses (Ok c) read = (s : Script) × (read ≡ Ok s) × Means c s
Parses (Err (BadLine n)) read = read ≡ Err n
Parses (Err OutOfMemory) read = Unit {0}

-- the line that an error names is there
abbrev pub TellsLine : List ℕ → ScriptError → Type 0
TellsLine text (BadLine n) = IsLine text n
TellsLine text OutOfMemory = Unit {0}
