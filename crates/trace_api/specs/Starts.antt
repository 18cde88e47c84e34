-- How a tracer starts spans.
use Rattle.std.specs.Prelude.{◌≡◌, ℕ, ◌⊎◌, List, [], true, false, Option, Some, None}
use Rattle.std.specs.Prelude.{Result, Ok, Err}
use Rattle.model_span.specs.Spans.{Context, Kind, Resource, Scope, SpanLimits}
use Rattle.model_span.specs.Attributes.{is_empty}
use Rattle.model_span.specs.Sampling.{SamplerMeaning, is_recording}
use Rattle.model_span.specs.Starts.{Ids as ModelIds, StartRequest, StartedSpan, Tracer, HeldSpan}
use Rattle.model_span.specs.Starts.{held_span, started_span_as}
use Rattle.otlp_ids.specs.SpanContext.{parent_view}
use Rattle.otlp_sampler.specs.Sampling.{decision_view}
use Rattle.trace_api.specs.declared.provider.Ids.{Ids}
use Rattle.trace_api.specs.declared.provider.Decided.{Decided}
use Rattle.trace_api.specs.declared.provider.StartFault.{StartFault}
use Rattle.trace_api.specs.declared.provider.StartFault.TheVariants.{NoRandomness, OutOfMemory}

-- what makes spans, with the sampler as it is
pub record ProviderWith (S : Type 0) : Type 0 where
  pub sampler : S
  pub resource : Resource
  pub limits : SpanLimits

-- the same in one of its scopes
pub record TracerWith (S : Type 0) : Type 0 where
  pub provider : ProviderWith S
  pub scope : Scope

-- with what the sampler means
abbrev pub tracer_view : {S : Type 0} → (S → SamplerMeaning) → TracerWith S → Tracer
tracer_view meaning t = record {
  provider =
      record {
        sampler = meaning t.provider.sampler;
        resource = t.provider.resource;
        limits =
            t.provider.limits;
      };
  scope = t.scope;
}

abbrev pub ids_view : Ids → ModelIds
ids_view ids = record { trace = ids.trace.0; span = ids.span.0 }

-- A sampler that was asked so decided this, of the parent that counts.
pub record IsDecided {A : Type 0} (sampler : SamplerMeaning) (parent : Option Context)
    (name : List ℕ) (kind : Kind) (d : Decided A) : Type 0 where
  pub parent_is : parent_view d.parent ≡ parent
  pub decision_is : decision_view d.decision ≡ sampler (record {
    parent = parent;
    trace = d.ids.trace.0;
    name = name;
    kind = kind;
  })

-- the span of this tracer that was decided on so, with this name, kind and moment
abbrev pub opened_span : {A : Type 0} → Tracer → Decided A → List ℕ → Kind → ℕ → StartedSpan
opened_span tracer d name kind at =
    let a : StartRequest =
    record { parent = parent_view d.parent; name = name; kind = kind; at = at }
    in started_span_as tracer a (ids_view d.ids) (decision_view d.decision)

-- Starting it takes memory: it is recorded, or has a trace state to copy.
abbrev pub StartTakesMemory : StartedSpan → Type 0
StartTakesMemory s = (is_recording s.decision ≡ true) ⊎ (is_empty s.start.context.state ≡ false)

-- The span that starts, before any call, or a refusal where it takes memory.
abbrev pub OpensAs : {E : Type 0} → StartedSpan → Result HeldSpan E → Type 0
OpensAs s (Ok span) = span ≡ held_span s []
OpensAs s (Err fault) = StartTakesMemory s

-- What a start answers: the span that starts, before any call, or no randomness exactly where there
-- is none. Memory is refused only where starting takes some. (Trace SDK, SDK Span creation)
abbrev pub StartsAs : Option StartedSpan → Result HeldSpan StartFault → Type 0
StartsAs there (Ok span) = (s : StartedSpan) × (there ≡ Some s) × (span ≡ held_span s [])
StartsAs there (Err NoRandomness) = there ≡ None
StartsAs there (Err OutOfMemory) = (s : StartedSpan) × (there ≡ Some s) × StartTakesMemory s
