-- What a program does with spans, and which of them it ends. (Trace API, Span Creation, Span
-- operations)
use Rattle.std.specs.Prelude.{ℕ, zero, suc, ◌+◌, ◌==◌, nat_lt, Bool, false, not, ◌&&◌, List, []}
use Rattle.std.specs.Prelude.{◌∷◌, ◌++◌, filter_map, take_while, if◌then◌else◌, Option, Some, None}
use Rattle.std.specs.Prelude.{option_map}
use Rattle.std.specs.Option.{option_and_then}
use Rattle.std.specs.List.{slice_get, sum_by}
use Rattle.model_span.specs.Attributes.{distinct_of}
use Rattle.model_span.specs.Spans.{Context, Kind, Scope, Call, SpanData, is_end, with_ticket}
use Rattle.model_run.specs.Steps.{Parent, root, numbered, given, Step, is_shutdown}
use Rattle.model_span.specs.Identifiers.{Words, words_after}
use Rattle.model_span.specs.Sampling.{is_sampled}
use Rattle.model_span.specs.Starts.{StartedSpan, Provider, Tracer, StartRequest, start_request}
use Rattle.model_span.specs.Starts.{started_span, ids_words, exported_span}

-- A step that counts for the spans. A start to which memory was refused does: it has its number and
-- has spent its words, but it gives no span. (profile)
pub data SpanStep : Type 0 where
  -- whether memory was refused; the number of the scope, the parent, the kind, the moment, the name
  start : Bool → ℕ → Parent → Kind → ℕ → List ℕ → SpanStep
  -- the number of the span, and the call, which may be its end
  call : ℕ → Call → SpanStep

-- What a step is for the spans, where memory was refused to it or not. A refused call is nothing.
-- (profile)
abbrev pub span_step : Bool → Step → Option SpanStep
span_step refused (Step.start scope parent kind at name) =
    Some (start refused scope parent kind at name)
span_step refused (Step.call n c) = if refused then None else Some (call n c)
span_step refused _ = None

-- what a program has before its first step
pub record Setup : Type 0 where
  pub words : Words
  pub provider : Provider
  pub scopes : List Scope

-- ---- starts

-- what a start comes to: how many words it takes, and the span, if there is one
pub record StartResult : Type 0 where
  pub spent : ℕ
  pub span : Option StartedSpan

-- a start whose scope or parent isn't there takes no words and gives no span (profile)
abbrev pub no_span : StartResult
no_span = record { spent = 0; span = None }

abbrev pub context_of_result : Option StartResult → Option (Option Context)
context_of_result None = None
context_of_result (Some o) = option_map (λ s. Some s.start.context) o.span

-- the parent that a start names, where it is there, after starts that came to these
abbrev pub parent_among : List StartResult → Parent → Option (Option Context)
parent_among earlier root = Some None
parent_among earlier (numbered n) = context_of_result (slice_get earlier n)
parent_among earlier (given c) = Some (Some c)

-- the words that are left after starts that came to these
abbrev pub words_left : Setup → List StartResult → Words
words_left setup earlier = words_after (sum_by (λ o. o.spent) earlier) setup.words

abbrev pub start_result_of : Tracer → StartRequest → Words → StartResult
start_result_of tracer a words =
    record { spent = ids_words a.parent words; span = started_span tracer a words }

-- a start in a scope and with a parent that may not be there
abbrev pub start_result_in : Setup → Words → Option Scope → Option (Option Context) → Kind → ℕ
    → List ℕ → StartResult
start_result_in setup words (Some scope) (Some parent) kind at name =
    start_result_of (record { provider = setup.provider; scope = scope })
    (start_request parent name kind at) words
start_result_in setup words _ _ kind at name = no_span

-- the same, or, where memory was refused, no span (profile)
abbrev pub unless_refused : Bool → StartResult → StartResult
unless_refused refused o = if refused then record o { span = None } else o

-- what a start comes to, after starts that came to these
abbrev pub start_result : Setup → List StartResult → Bool → ℕ → Parent → Kind → ℕ → List ℕ
    → StartResult
start_result setup earlier refused scope parent kind at name =
    unless_refused refused
    (start_result_in setup (words_left setup earlier) (slice_get setup.scopes scope)
    (parent_among earlier parent) kind at name)

-- what the starts among some steps come to, in order, each after those before it
unfoldable pub start_results_after : Setup → List StartResult → List SpanStep → List StartResult
start_results_after setup earlier [] = earlier
start_results_after setup earlier (start refused scope parent kind at name ∷ steps) =
    start_results_after setup
    (earlier ++ start_result setup earlier refused scope parent kind at name ∷ []) steps
start_results_after setup earlier (call n c ∷ steps) = start_results_after setup earlier steps

-- what the starts come to
abbrev pub start_results : Setup → List SpanStep → List StartResult
start_results setup steps = start_results_after setup [] steps

-- how many starts there are
abbrev pub start_count : List SpanStep → ℕ
start_count [] = 0
start_count (start refused scope parent kind at name ∷ steps) = suc (start_count steps)
start_count (call n c ∷ steps) = start_count steps

-- ---- calls

-- the steps after the start with this number
abbrev pub later_start : ℕ → List SpanStep → List SpanStep
later_start n [] = []
later_start zero (start refused scope parent kind at name ∷ steps) = steps
later_start (suc n) (start refused scope parent kind at name ∷ steps) = later_start n steps
later_start n (call m c ∷ steps) = later_start n steps

-- the call that a step makes on the span with this number, if it makes one
abbrev pub call_on : ℕ → SpanStep → Option Call
call_on n (start refused scope parent kind at name) = None
call_on n (call m c) = if m == n then Some c else None

-- the calls on the span with this number: those after its start
abbrev pub calls_on : ℕ → List SpanStep → List Call
calls_on n steps = filter_map (call_on n) (later_start n steps)

-- ---- ends

-- Whose ends there are, in order: for each the number of its span, where a start of this number
-- comes before, also one that gave no span. The steps come after `started` starts.
abbrev pub ends_after : ℕ → List SpanStep → List ℕ
ends_after started [] = []
ends_after started (start refused scope parent kind at name ∷ steps) =
    ends_after (started + 1) steps
ends_after started (call n c ∷ steps) =
    if is_end c && nat_lt n started then n ∷ ends_after started steps
    else ends_after started steps

-- The numbers whose ends count, in the order of their first ends; those too whose start gave no
-- span. (Trace API, End)
abbrev pub ended_numbers : List SpanStep → List ℕ
ended_numbers steps = distinct_of (λ n m. n == m) (ends_after 0 steps)

-- what is exported of a span that has started, if it is sampled (Trace SDK, Sampling)
abbrev pub exported_if_sampled : List Call → StartedSpan → Option SpanData
exported_if_sampled calls s = if is_sampled s.decision then Some (exported_span s calls) else None

-- what is exported of the span with this number
abbrev pub exported_of : List Call → Option StartResult → Option SpanData
exported_of calls None = None
exported_of calls (Some o) = option_and_then (exported_if_sampled calls) o.span

-- The sampled spans that the steps end, in the order of their first ends, each with what its calls
-- made of it. (Trace API, End; Trace SDK, Sampling)
abbrev pub exported_spans : Setup → List SpanStep → List SpanData
exported_spans setup steps =
    filter_map (λ n. exported_of (calls_on n steps) (slice_get (start_results setup steps) n))
    (ended_numbers steps)

-- spans that are admitted one after the other, from this number on
abbrev pub with_tickets : ℕ → List SpanData → List SpanData
with_tickets n [] = []
with_tickets n (x ∷ xs) = with_ticket n x ∷ with_tickets (n + 1) xs

-- the same spans, each with its place among them as its ticket (profile: tickets from 0 on)
abbrev pub ended_spans : Setup → List SpanStep → List SpanData
ended_spans setup steps = with_tickets 0 (exported_spans setup steps)

-- what the steps before the first shutdown are for the spans, where memory is refused to none
abbrev pub granted_steps : List Step → List SpanStep
granted_steps steps = filter_map (span_step false) (take_while (λ x. not (is_shutdown x)) steps)
