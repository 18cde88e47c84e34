-- How a span is handed to a pass. (Trace API, End; Trace SDK, Sampling, OnEnd)
use Rattle.std.specs.Prelude.{◌≡◌, ℕ, Bool, true, false, IsTrue, List, [], ◌∷◌, ◌++◌}
use Rattle.std.specs.List.{list_any}
use Rattle.model_span.specs.Spans.{Call, SpanData, end, is_end}
use Rattle.model_span.specs.Starts.{HeldSpan, StartedSpan, exported_span, held_span}
use Rattle.trace_api.specs.Calls.{goes_to_pass}
use Rattle.trace_api.specs.Pass.{is_admission}
use Rattle.trace_api.specs.declared.pass.Ended.{Ended}

-- by whether it is sampled: the pass takes the span, or nothing is asked
abbrev pub HandedBy : {P : Type 0} → (P → SpanData → Ended → P → Type 0) → Bool → SpanData → P
    → P → Type 0
HandedBy admits true span old new =
    (answer : Ended) × admits old span answer new × IsTrue (is_admission answer)
HandedBy admits false span old new = new ≡ old

-- The span that has started, with these calls, is handed to the pass, where it is sampled.
abbrev pub Handed : {P : Type 0} → (P → SpanData → Ended → P → Type 0) → StartedSpan → List Call
    → P → P → Type 0
Handed admits s calls old new =
    HandedBy admits (goes_to_pass (held_span s [])) (exported_span s calls) old new

-- A span with calls none of which is an end is handed over with these and its end.
pub record EndsAs {P : Type 0} (admits : P → SpanData → Ended → P → Type 0) (more : List Call)
    (at : ℕ) (span : HeldSpan) (old new : P) : Type 0 where
  pub value : (s : StartedSpan) (calls : List Call) → span ≡ held_span s calls
      → list_any is_end calls ≡ false
      → Handed admits s (calls ++ more ++ end at ∷ []) old new
