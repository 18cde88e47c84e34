-- A request within a span. (Semantic Conventions, HTTP spans, HTTP client; W3C Trace Context)
use Rattle.std.specs.Prelude.{◌≡◌, ℕ, ◌+◌, ◌⊎◌, List, [], ◌∷◌, ◌++◌, Option, Some, None}
use Rattle.std.specs.Prelude.{Result, option_map}
use Rattle.rand_core.specs.Stream.{Stream}
use Rattle.trace_api.specs.Counts.{counted_requests}
use Rattle.trace_api.specs.Ends.{Handed}
use Rattle.model_span.specs.Sampling.{SamplerMeaning, valid_parent}
use Rattle.model_span.specs.Spans.{Context, SpanData, end}
use Rattle.model_span.specs.Starts.{HeldSpan, StartedSpan, ids_words, started_span}
use Rattle.otlp_http.specs.Address.{Address}
use Rattle.otlp_http.specs.Replies.{HttpReply}
use Rattle.otlp_ids.specs.WordStream.{Spends, words_of}
use Rattle.trace_api.specs.Starts.{TracerWith, tracer_view}
use Rattle.trace_api.specs.declared.pass.Ended.{Ended}
use Rattle.trace_context.specs.Carriers.{Field}
use Rattle.http_client.specs.declared.fault.SendFault.{SendFault}
use Rattle.traced_http.specs.ClientSpans.{HasStartedOrNone, carried_by, client_start}
use Rattle.traced_http.specs.ClientSpans.{closing_calls, request_calls}

-- what requests are sent with
pub record ClientWith (S R C D : Type 0) : Type 0 where
  pub tracer : TracerWith S
  pub rng : R
  -- what gives the moments
  pub clock : C
  -- what gives the links
  pub dial : D
  -- the methods that its spans are named by
  pub methods : List (List ℕ)
  -- how many requests have no span
  pub untraced : ℕ

-- What came of a request that was sent with these fields that carry a context: from this state of
-- what gives the links, this result, and that state.
abbrev pub Asks : Type 0 → Type 1
Asks D = List Field → D → D → Result HttpReply SendFault → Type 0

module _ {S R C D P : Type 0} (meaning : S → SamplerMeaning) (stream : R → Stream)
    (tells : C → ℕ → Type 0) (admits : P → SpanData → Ended → P → Type 0) where
  -- This span has started for a request of this method, a child of the parent, at a moment that the
  -- clock tells. The generator has given the words of its identifiers, and no others.
  pub record Starts (old : ClientWith S R C D) (parent : Option Context) (method : List ℕ)
      (s : StartedSpan) (new : ClientWith S R C D) : Type 0 where
    pub begun : ℕ
    pub begun_told : tells old.clock begun
    pub started : started_span (tracer_view meaning old.tracer)
        (client_start old.methods method parent begun)
        (words_of (stream old.rng)) ≡ Some s
    pub spent : Spends (ids_words (valid_parent parent)) (stream old.rng) (stream new.rng)

  -- The request has a span, whose context it carries. It is handed to the pass, with what came of
  -- the request, and ends at a moment that the clock tells.
  pub record IsTraced (old : ClientWith S R C D) (parent : Option Context) (method : List ℕ)
      (address : Address) (context : Option Context) (before : P)
      (result : Result HttpReply SendFault) (new : ClientWith S R C D) (after : P)
      : Type 0 where
    pub s : StartedSpan
    pub starts : Starts old parent method s new
    pub is_carried : context ≡ Some s.start.context
    pub ended : ℕ
    pub ended_told : tells old.clock ended
    pub handed : Handed admits s
        (request_calls old.methods method address ++ closing_calls result ++ end ended ∷ [])
        before after
    pub untraced : new.untraced ≡ old.untraced

  -- No span of the request was handed over, and the request is counted. It carries no context: no
  -- span could start for it, or memory for the fields that carry the span's was refused. Or it
  -- carries that of the span that has started, for whose end memory was refused.
  pub record IsUntraced (old : ClientWith S R C D) (parent : Option Context) (method : List ℕ)
      (address : Address) (context : Option Context) (before : P) (new : ClientWith S R C D)
      (after : P) : Type 0 where
    pub begun : ℕ
    pub begun_told : tells old.clock begun
    pub span : Option HeldSpan
    pub started : HasStartedOrNone (tracer_view meaning old.tracer) (stream old.rng)
        (stream new.rng) old.methods parent method address begun span
    pub carried : (context ≡ None) ⊎ (context ≡ option_map (λ held. held.context) span)
    pub untouched : after ≡ before
    pub untraced : new.untraced ≡ counted_requests (old.untraced + 1)

  -- A request of this method to this address is sent, once, and within a span, which is handed over
  -- once.
  pub record Sends (asks : Asks D) (old : ClientWith S R C D) (parent : Option Context)
      (method : List ℕ) (address : Address) (before : P) (result : Result HttpReply SendFault)
      (new : ClientWith S R C D) (after : P) : Type 0 where
    pub context : Option Context
    pub asked : asks (carried_by context) old.dial new.dial result
    pub traced : IsTraced old parent method address context before result new after
        ⊎ IsUntraced old parent method address context before new after
    pub tracer : new.tracer ≡ old.tracer
    pub clock : new.clock ≡ old.clock
    pub methods : new.methods ≡ old.methods
