-- The starts and the steps of the examples, and what is expected of them.
use Rattle.std.specs.Prelude.{ℕ, pos, List, [], ◌∷◌, map, Bool, true, false, Option, None, Some}
use Rattle.std.specs.Prelude.{codes, bytes_eq, slice_index, if◌then◌else◌}
use Rattle.std.specs.Str.{chars}
use lib.Utf8.{encode}
use Prim.Native.String.{String}
use Rattle.model_span.specs.Attributes.{Attribute, int}
use Rattle.model_span.specs.Spans as model
use Rattle.model_span.specs.Spans.{default_limits, Context, server, unset, Call, Resource, Scope}
use Rattle.model_span.specs.Spans.{SpanLimits, Span, SpanData, span}
use Rattle.model_span.specs.Identifiers.{first_valid}
use Rattle.model_span.specs.Sampling.{SamplerMeaning, Decision, drop, record_and_sample, ByParent}
use Rattle.model_span.specs.Sampling.{valid_parent, parent_based}
use Rattle.model_span.specs.Starts.{Ids, Provider, StartedSpan, HeldSpan, SpanState, start_request}
use Rattle.model_span.specs.Starts.{started_span, ids_of, ids_words, held_span, recording}
use Rattle.model_run.specs.Steps.{Parent}
use Rattle.model_run.specs.History.{SpanStep, Setup, StartResult, start, start_results}
use Rattle.model_run.specs.History.{start_results_after, ended_spans}
use Rattle.worked_trace.specs.Hex.{hex}
use Rattle.worked_trace.specs.Samples.{trace_id, span_id, pair, resource_with, scope_s, scope_t}

-- ---- words and contexts

-- the words of `trace_id`, and after them that of `span_id`
abbrev pub root_words : List ℕ
root_words = 0x0102030405060708 ∷ 0x090a0b0c0d0e0f10 ∷ 0x1112131415161718 ∷ []

-- the word of `span_id`
abbrev pub span_word : ℕ
span_word = 0x1112131415161718

-- the word of `child_id`
abbrev pub child_word : ℕ
child_word = 0x2122232425262728

abbrev pub parent_trace : List ℕ
unfolding hex
parent_trace = hex "31 32 33 34 35 36 37 38 39 3a 3b 3c 3d 3e 3f 40"

abbrev pub parent_id : List ℕ
unfolding hex
parent_id = hex "41 42 43 44 45 46 47 48"

-- a parent, remote or not, with these flags and the trace state k=v
abbrev pub parent_with : Bool → ℕ → Context
unfolding hex
parent_with remote flags =
    record {
      trace = parent_trace;
      span = parent_id;
      flags = flags;
      remote = remote;
      state =
          codes "k=v";
    }

-- a context of this process
abbrev pub local_context : List ℕ → List ℕ → ℕ → String → Context
local_context trace id flags state =
    record { trace = trace; span = id; flags = flags; remote = false; state = codes state }

-- the parent of this identifier, of this process or of elsewhere
abbrev pub local_parent : List ℕ → Option model.Parent
local_parent id = Some (record { id = id; remote = false })

abbrev pub remote_parent : List ℕ → Option model.Parent
remote_parent id = Some (record { id = id; remote = true })

-- ---- identifiers

-- what is drawn of these words, after which are zeros
unfoldable pub ids_drawn : Option Context → List ℕ → Option Ids
unfolding ids_of first_valid
ids_drawn parent words = ids_of parent (slice_index words)

-- and how many of them are
unfoldable pub words_drawn : Option Context → List ℕ → ℕ
unfolding ids_words first_valid
words_drawn parent words = ids_words parent (slice_index words)

-- ---- samplers

-- samples the spans of one name, and drops the others
abbrev pub of_name : String → SamplerMeaning
of_name name span = if bytes_eq span.name (codes name) then record_and_sample else drop

-- five samplers, each of one name
abbrev pub five : ByParent
five = record {
  root = of_name "root";
  remote_parent_sampled = of_name "remote sampled";
  remote_parent_not_sampled = of_name "remote";
  local_parent_sampled = of_name "local sampled";
  local_parent_not_sampled = of_name "local";
}

-- What the five decide on a span of each of the names, in their order: the one that is asked
-- samples its own.
abbrev pub five_decisions : Option Context → List Decision
unfolding hex
five_decisions parent = map
    (λ name.
    parent_based five
    (record {
      parent = valid_parent parent;
      trace = trace_id;
      name = codes name;
      kind =
          server;
    }))
    ("root" ∷ "remote sampled" ∷ "remote" ∷ "local sampled" ∷ "local" ∷ [])

-- ---- starts

-- at most one attribute
abbrev pub one_attribute : SpanLimits
one_attribute = record default_limits { attributes = 1 }

abbrev pub host : Resource
host = resource_with (pair "host" (int (pos 1)) ∷ [])

abbrev pub provider_with : SamplerMeaning → Provider
provider_with sampler = record { sampler = sampler; resource = host; limits = one_attribute }

-- the start of a span named a, of kind server, at 5, in scope t, where these words are left
unfoldable pub started_by : SamplerMeaning → Option Context → List ℕ → Option StartedSpan
unfolding started_span ids_of first_valid
started_by sampler parent words =
    started_span (record { provider = provider_with sampler; scope = scope_t })
    (start_request parent (codes "a") server 5) (slice_index words)

-- that span, with this context and parent, and this decision
abbrev pub begun_in : Scope → String → ℕ → Context → Option model.Parent → Decision → StartedSpan
begun_in scope name at context parent decision = record {
  resource = host;
  scope = scope;
  limits = one_attribute;
  start = record { context = context; parent = parent; name = codes name; kind = server; at = at };
  decision = decision;
}

abbrev pub begun_span : Context → Option model.Parent → Decision → StartedSpan
begun_span context parent decision = begun_in scope_t "a" 5 context parent decision

-- ---- what a program holds

-- a root, with this decision, after some calls
unfoldable pub held_after : Decision → List Call → HeldSpan
unfolding held_span span chars encode hex
held_after decision calls =
    held_span (begun_span (local_context trace_id span_id 1 "") None decision) calls

-- a span with this context and parent, this name, these moments and, but for these attributes,
-- nothing set
abbrev pub span_between : Context → Option model.Parent → String → ℕ → ℕ → List Attribute → ℕ → Span
span_between context parent name from until pairs dropped = record {
  context = context;
  parent = parent;
  name = codes name;
  kind = server;
  start = from;
  end = until;
  attributes = record { items = pairs; dropped = dropped };
  events = record { items = []; dropped = 0 };
  links = record { items = []; dropped = 0 };
  status = unset;
}

-- the root while it is recorded, with these attributes
abbrev pub recorded_root : List Attribute → ℕ → SpanState
unfolding hex
recorded_root pairs dropped = recording (record {
  limits = one_attribute;
  resource = host;
  scope = scope_t;
  span = span_between (local_context trace_id span_id 1 "") None "a" 5 5 pairs dropped;
})

-- ---- steps

-- a start of a span of kind server
abbrev pub begin : ℕ → Parent → ℕ → String → SpanStep
begin scope parent at name = start false scope parent server at (codes name)

-- the same, where memory is refused
abbrev pub begin_refused : ℕ → Parent → ℕ → String → SpanStep
begin_refused scope parent at name = start true scope parent server at (codes name)

-- the scopes s and t, these words, and this sampler
abbrev pub setup_with : SamplerMeaning → List ℕ → Setup
setup_with sampler words =
    record {
      words = slice_index words;
      provider = provider_with sampler;
      scopes = scope_s ∷ scope_t ∷ [];
    }

unfoldable pub outcomes_by : SamplerMeaning → List ℕ → List SpanStep → List StartResult
unfolding start_results_after started_span ids_of ids_words first_valid
outcomes_by sampler words steps = start_results (setup_with sampler words) steps

unfoldable pub ended_by : SamplerMeaning → List ℕ → List SpanStep → List SpanData
unfolding start_results_after started_span ids_of ids_words first_valid span chars encode
ended_by sampler words steps = ended_spans (setup_with sampler words) steps

-- a start that takes this many words and gives this span
abbrev pub gives : ℕ → StartedSpan → StartResult
gives spent s = record { spent = spent; span = Some s }

-- a start that takes this many words and gives no span
abbrev pub gives_none : ℕ → StartResult
gives_none spent = record { spent = spent; span = None }

-- an exported span with this ticket, of a scope
abbrev pub exported_in : ℕ → Scope → Span → SpanData
exported_in ticket scope span =
    record { resource = host; scope = scope; span = span; ticket = ticket }
