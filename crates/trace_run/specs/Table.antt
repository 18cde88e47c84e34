-- What a table of spans is after some steps, and the answer to the next one. (Trace API, Span
-- Creation, Span operations)
use Rattle.std.specs.Prelude.{◌≡◌, ℕ, Bool, false, ◌&&◌, if◌then◌else◌, List, [], ◌∷◌, ◌++◌, length}
use Rattle.std.specs.Prelude.{map, Option, Some, None, is_some, option_map, slice_get}
use Rattle.std.specs.Option.{option_and_then}
use Rattle.rand_core.specs.Stream.{Stream}
use Rattle.model_span.specs.Identifiers.{Words}
use Rattle.model_span.specs.Sampling.{SamplerMeaning}
use Rattle.model_span.specs.Spans.{Call, Context, Kind, Scope}
use Rattle.model_span.specs.Starts.{HeldSpan, Provider, StartedSpan, Tracer, held_span}
use Rattle.model_run.specs.Steps.{Parent, root, numbered, given, Step}
use Rattle.model_run.specs.History.{SpanStep, Setup, StartResult, start_result, start_results}
use Rattle.model_run.specs.History.{parent_among, words_left, calls_on}
use Rattle.model_run.specs.Runs.{Answer, done, no_span, out_of_memory, span_steps}
use Rattle.model_run.specs.Answers.{call_takes_memory, start_answer}
use Rattle.otlp_ids.specs.WordStream.{words_of}
use Rattle.trace_api.specs.Starts.{ProviderWith, TracerWith, tracer_view}

-- a table: a tracer for each scope, the generator of words, the spans, and for how many starts
-- there is room
pub record TableWith (S R : Type 0) : Type 0 where
  pub tracers : List (TracerWith S)
  pub rng : R
  pub spans : List (Option HeldSpan)
  pub room : ℕ

-- what a program has before its first step, with what its sampler means
abbrev pub setup_with : {S : Type 0} → (S → SamplerMeaning) → Words → ProviderWith S → List Scope
    → Setup
setup_with meaning words provider scopes = record {
  words = words;
  provider = record {
    sampler = meaning provider.sampler;
    resource = provider.resource;
    limits = provider.limits;
  };
  scopes = scopes;
}

-- the tracers of a provider, one for each scope
abbrev pub tracers_of : {S : Type 0} → ProviderWith S → List Scope → List (TracerWith S)
tracers_of provider scopes = map (λ scope. record { provider = provider; scope = scope }) scopes

abbrev pub model_tracers : Provider → List Scope → List Tracer
model_tracers provider scopes = map (λ scope. record { provider = provider; scope = scope }) scopes

-- the span that a start gave, after these calls
abbrev pub span_after : List Call → StartResult → Option HeldSpan
span_after calls o = option_map (λ s. held_span s calls) o.span

-- The table is that of these steps: it has a slot for each start, with the span as its calls left
-- it, and the words that the starts left.
pub record IsTable {S R : Type 0} (meaning : S → SamplerMeaning) (stream : R → Stream)
    (setup : Setup) (steps : List SpanStep) (t : TableWith S R) : Type 0 where
  pub tracers : map (tracer_view meaning) t.tracers ≡ model_tracers setup.provider setup.scopes
  pub words : words_of (stream t.rng) ≡ words_left setup (start_results setup steps)
  pub many : length t.spans ≡ length (start_results setup steps)
  pub spans : (n : ℕ) → slice_get t.spans n
      ≡ option_map (span_after (calls_on n steps)) (slice_get (start_results setup steps) n)

-- One more step: what was a table of some steps is one of these and, where the step counts, of it.
abbrev pub TakesStep : {S R : Type 0} → (S → SamplerMeaning) → (R → Stream) → Step → Answer
    → TableWith S R → TableWith S R → Type 0
TakesStep meaning stream step answer old new =
    (setup : Setup) (steps : List SpanStep) → IsTable meaning stream setup steps old
    → let counted = span_steps (record { step = step; answer = answer } ∷ []) in
    IsTable meaning stream setup (steps ++ counted) new

-- ---- answers

-- the span with this number, where its start gave one
abbrev pub span_numbered : Setup → List SpanStep → ℕ → Option StartedSpan
span_numbered setup steps n =
    option_and_then (λ o. o.span) (slice_get (start_results setup steps) n)

-- the calls on it that count
abbrev pub calls_so_far : List SpanStep → ℕ → List Call
calls_so_far steps n = calls_on n steps

-- The answer to a start, where memory is refused to it or not.
abbrev pub answer_to_start : Setup → List SpanStep → Bool → ℕ → Parent → Kind → ℕ → List ℕ → Answer
answer_to_start setup steps refused scope parent kind at name =
    let earlier = start_results setup steps in
    let there = is_some (slice_get setup.scopes scope) && is_some (parent_among earlier parent) in
    start_answer there refused
    (start_result setup earlier false scope parent kind at name).span

-- The answer to this call, which is no end, on a span with these calls, if there is one.
abbrev pub answer_to_call : Bool → List Call → Call → Option StartedSpan → Answer
answer_to_call refused calls c None = no_span
answer_to_call refused calls c (Some s) =
    if refused && call_takes_memory s calls c then out_of_memory else done

-- ---- parents

abbrev pub context_in : Option (Option HeldSpan) → Option (Option Context)
context_in (Some (Some span)) = Some (Some span.context)
context_in (Some None) = None
context_in None = None

-- the parent that a start names, where it is there, among these spans
abbrev pub parent_in : List (Option HeldSpan) → Parent → Option (Option Context)
parent_in spans root = Some None
parent_in spans (numbered n) = context_in (slice_get spans n)
parent_in spans (given c) = Some (Some c)
