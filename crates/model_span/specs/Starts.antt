-- How a span starts, and what a program holds of it. (Trace API, Span Creation; Trace SDK, SDK Span
-- creation)
use Rattle.std.specs.Prelude.{ℕ, ◌≡◌, ◌+◌, List, [], ◌∷◌, ◌++◌, Bool, true, false, if◌then◌else◌}
use Rattle.std.specs.Prelude.{Option, Some, None, option_map}
use Rattle.std.specs.List.{list_any}
use Rattle.std.specs.Option.{option_and_then, option_map_or}
use Rattle.model_span.specs.Spans.{Context, Parent, Kind, Start, SpanLimits, Resource, Scope, Call}
use Rattle.model_span.specs.Spans.{SpanData, SpanRecord, is_end, span}
use Rattle.model_span.specs.Identifiers.{Words, trace_id, span_id, words_spent, words_after}
use Rattle.model_span.specs.Identifiers.{with_sampled_flag}
use Rattle.model_span.specs.Sampling.{SamplerMeaning, Decision, valid_parent, is_recording}
use Rattle.model_span.specs.Sampling.{is_sampled}

-- ---- the context of a span that starts; `parent` is the parent that counts

-- the identifiers of a span: its trace's and its own
pub record Ids : Type 0 where
  pub trace : List ℕ
  pub span : List ℕ

-- the trace it belongs to: its parent's, or a new one, if one can be drawn (Trace SDK, SDK Span
-- creation)
abbrev pub trace_of : Option Context → Words → Option (List ℕ)
trace_of None words = trace_id words
trace_of (Some parent) words = Some parent.trace

-- how many words this takes: a trace that is there already takes none
abbrev pub trace_words : Option Context → Words → ℕ
trace_words None words = words_spent 2 words
trace_words (Some parent) words = 0

-- in this trace, the identifier of the span being drawn from these words, if one can be
abbrev pub ids_in : Words → List ℕ → Option Ids
ids_in words trace = option_map (λ id. record { trace = trace; span = id }) (span_id words)

-- First the trace, then the span's own identifier, of the words in their order. None where they
-- gave only zeros. (Trace SDK, SDK Span creation, Id Generators)
unfoldable pub ids_of : Option Context → Words → Option Ids
ids_of parent words =
    option_and_then (ids_in (words_after (trace_words parent words) words)) (trace_of parent words)

-- how many words they take, also where they give no identifier (profile)
unfoldable pub ids_words : Option Context → Words → ℕ
ids_words parent words =
    let n = trace_words parent words in
    n + option_map_or (λ trace. words_spent 1 (words_after n words)) (trace_of parent words) 0

-- The flags are those of the parent, but for the sampled flag. A root has this one alone. (W3C
-- Trace Context, trace-flags; that the others are handed on: profile)
abbrev pub flags_of : Option Context → Bool → ℕ
flags_of None sampled = with_sampled_flag sampled 0
flags_of (Some parent) sampled = with_sampled_flag sampled parent.flags

-- the trace state is the parent's, as it came (W3C Trace Context, tracestate; no sampler changes
-- it: profile)
abbrev pub state_of : Option Context → List ℕ
state_of None = []
state_of (Some parent) = parent.state

-- The parent that a span keeps: the span id of its context, and whether that came from elsewhere.
-- (Trace API, Span Creation, SpanContext, IsRemote)
abbrev pub parent_of : Context → Parent
parent_of c = record { id = c.span; remote = c.remote }

-- ---- a span that starts

-- A span that has started: what makes it, how it started, what it keeps, and what its sampler
-- decided.
pub record StartedSpan : Type 0 where
  pub resource : Resource
  pub scope : Scope
  pub limits : SpanLimits
  pub start : Start
  pub decision : Decision

-- what makes spans (Trace API, TracerProvider; Trace SDK, Tracer Provider)
pub record Provider : Type 0 where
  pub sampler : SamplerMeaning
  pub resource : Resource
  pub limits : SpanLimits

-- the same in one of its scopes (Trace API, Tracer)
pub record Tracer : Type 0 where
  pub provider : Provider
  pub scope : Scope

-- the start that a program asks for, with the parent that counts (Trace API, Span Creation)
pub record StartRequest : Type 0 where
  pub parent : Option Context
  pub name : List ℕ
  pub kind : Kind
  pub at : ℕ

-- with a parent as it was handed in
abbrev pub start_request : Option Context → List ℕ → Kind → ℕ → StartRequest
start_request parent name kind at =
    record { parent = valid_parent parent; name = name; kind = kind; at = at }

-- the decision on a span of this trace (Trace SDK, Sampling)
abbrev pub decision_of : Tracer → StartRequest → List ℕ → Decision
decision_of tracer a trace =
    tracer.provider.sampler
    (record { parent = a.parent; trace = trace; name = a.name; kind = a.kind })

-- the span of these identifiers and this decision
abbrev pub started_span_as : Tracer → StartRequest → Ids → Decision → StartedSpan
started_span_as tracer a ids decision = record {
  resource = tracer.provider.resource;
  scope = tracer.scope;
  limits = tracer.provider.limits;
  start = record {
    context = record {
      trace = ids.trace;
      span = ids.span;
      flags = flags_of a.parent (is_sampled decision);
      remote = false;
      state = state_of a.parent;
    };
    parent = option_map parent_of a.parent;
    name = a.name;
    kind = a.kind;
    at = a.at;
  };
  decision = decision;
}

-- The span that starts, if it has identifiers: they are drawn whatever is decided of it. (Trace
-- SDK, SDK Span creation)
unfoldable pub started_span : Tracer → StartRequest → Words → Option StartedSpan
started_span tracer a words =
    option_map (λ ids. started_span_as tracer a ids (decision_of tracer a ids.trace))
    (ids_of a.parent words)

-- ---- what a program holds

-- whether calls on a span still count (Trace API, IsRecording)
pub data SpanState : Type 0 where
  recording : SpanRecord → SpanState
  -- its sampler dropped it
  not_recording : SpanState
  ended : SpanState

-- a span in the hands of a program (Trace API, Span)
pub record HeldSpan : Type 0 where
  pub context : Context
  pub state : SpanState

abbrev pub is_recording_state : SpanState → Bool
is_recording_state (recording r) = true
is_recording_state not_recording = false
is_recording_state ended = false

abbrev pub state_after : StartedSpan → List Call → SpanState
state_after s calls =
    if list_any is_end calls then ended
    else if is_recording s.decision then recording (record {
      limits = s.limits;
      resource = s.resource;
      scope = s.scope;
      span = span s.limits s.start calls;
    })
    else not_recording

-- A span that has started, after some calls: it keeps its context, and is recorded until it ends,
-- unless it was dropped. (Trace API, Span operations)
unfoldable pub held_span : StartedSpan → List Call → HeldSpan
held_span s calls = record { context = s.start.context; state = state_after s calls }

-- One more call: what was a span after some calls is that span after these and this one. It keeps
-- its context.
pub record Does (call : Call) (old new : HeldSpan) : Type 0 where
  pub context : new.context ≡ old.context
  pub value : (s : StartedSpan) (calls : List Call) → old ≡ held_span s calls
      → new ≡ held_span s (calls ++ call ∷ [])

-- Where calls don't count, nothing changes. (Trace API, IsRecording)
abbrev pub IgnoredUnlessRecording : HeldSpan → HeldSpan → Type 0
IgnoredUnlessRecording old new = is_recording_state old.state ≡ false → new ≡ old

-- what a span is to those who export it, after some calls (Trace SDK, Additional Span Interfaces)
abbrev pub exported_span : StartedSpan → List Call → SpanData
exported_span s calls = record {
  resource = s.resource;
  scope = s.scope;
  span = span s.limits s.start calls;
  ticket = 0;
}
