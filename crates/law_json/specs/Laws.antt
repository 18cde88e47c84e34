-- What is proved of spans that are written in OTLP's JSON and read again.
use Rattle.std.specs.Prelude.{◌≡◌, ℕ, ◌<◌, ◌^◌, false, List, [], map, length, Ok}
use Rattle.std.specs.List.{AllByRecursion, Contains}
use Rattle.std.specs.declared.sync.Arc.{Arc}
use Rattle.base64.specs.GeneralPurpose.{IsBytes}
use Rattle.model_message.specs.Messages.{Triple, body_meaning}
use Rattle.model_message.specs.Reading.{done}
use Rattle.otlp_json.specs.Posted.{posted_bytes}
use Rattle.trace_store.specs.declared.span.ViewSpan.{ViewSpan}
use Rattle.view_json.specs.Pieces.{IsJsonText}
use Rattle.view_json.specs.Spans.{trace_seen}
use Rattle.law_json.specs.Back.{triple_back}
use Rattle.law_json.specs.Kept.{kept_triple}
use Rattle.law_json.specs.Sound.{IsSoundTriple}

-- The text is read without a fault, as bytes that mean exactly these spans, in order, each with its
-- resource and its scope, but for doubles that are no number. Lengths in bytes have 64 bits.
-- (opentelemetry-proto, "JSON Protobuf Encoding")
abbrev pub MeansSpans : {A : Type 0} → List (Arc (ViewSpan A) A) → List ℕ → Type 0
MeansSpans spans text =
    (bytes : List ℕ) × (posted_bytes text ≡ Ok bytes)
    × (length bytes < 2 ^ 64
    → body_meaning bytes ≡ done (map (λ kept. triple_back (kept_triple kept)) spans))

-- Each text that a trace of sound spans has in JSON means them.
abbrev pub TraceIsReadBack : Type 0 → Type 0
TraceIsReadBack A =
    (spans : List (Arc (ViewSpan A) A)) (text : List ℕ)
    → AllByRecursion (λ kept. IsSoundTriple (kept_triple kept)) spans
    → IsJsonText false (trace_seen spans) text → MeansSpans spans text

-- Each span that bytes mean, without a fault, is sound. (Protocol Buffers, Encoding; the depth:
-- profile)
abbrev pub ReadIsSound : Type 0
ReadIsSound =
    (body : List ℕ) → IsBytes body → (body_meaning body).faults ≡ []
    → AllByRecursion IsSoundTriple (body_meaning body).value

-- A span that was read: it is one of those that some bytes mean, without a fault.
pub record WasRead (t : Triple) : Type 0 where
  pub body : List ℕ
  pub are_bytes : IsBytes body
  pub no_fault : (body_meaning body).faults ≡ []
  pub is_in : Contains (body_meaning body).value t

-- Each text that a trace has in JSON means its spans, if each of them was read, of one body or of
-- several.
abbrev pub ReceivedIsReadBack : Type 0 → Type 0
ReceivedIsReadBack A =
    (spans : List (Arc (ViewSpan A) A)) (text : List ℕ)
    → AllByRecursion (λ kept. WasRead (kept_triple kept)) spans
    → IsJsonText false (trace_seen spans) text → MeansSpans spans text
