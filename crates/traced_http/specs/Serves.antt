-- How a service answers a request within its span. (Semantic Conventions, HTTP spans, HTTP server)
use Rattle.std.specs.Prelude.{◌≡◌, ℕ, ◌+◌, ◌⊎◌, false, List, [], ◌∷◌, ◌++◌}
use Rattle.std.specs.Prelude.{Option, Some, None}
use Rattle.std.specs.List.{list_any}
use Rattle.rand_core.specs.Stream.{Stream}
use Rattle.http.specs.declared.request.Request.{Request}
use Rattle.http.specs.Request.{head_of}
use Rattle.http_server.specs.declared.response.Response.{Response}
use Rattle.http_server.specs.Response.{IsResponse}
use Rattle.model_span.specs.Sampling.{SamplerMeaning, valid_parent}
use Rattle.model_span.specs.Spans.{Call, SpanData, end, is_end}
use Rattle.model_span.specs.Starts.{HeldSpan, StartedSpan, held_span, ids_words, started_span}
use Rattle.otlp_ids.specs.WordStream.{Spends, words_of}
use Rattle.trace_api.specs.Starts.{TracerWith, tracer_view}
use Rattle.trace_api.specs.declared.pass.Ended.{Ended}
use Rattle.traced_http.specs.declared.server.service.TracedService.{TracedService}
use Rattle.trace_api.specs.Counts.{counted_requests}
use Rattle.trace_api.specs.Endings.{ending_calls}
use Rattle.trace_api.specs.Ends.{Handed}
use Rattle.http_connection.specs.Dates.{SaysDate}
use Rattle.traced_http.specs.Attributes.{Server, ending_of, server_view}
use Rattle.traced_http.specs.Carried.{carried}
use Rattle.traced_http.specs.RequestSpans.{LentSpan, counted, lent_span}
use Rattle.traced_http.specs.ServerSpans.{HasStartedOrNone, request_calls, server_start}

-- what requests are answered with
pub record Serving (S H P R C : Type 0) : Type 0 where
  pub tracer : TracerWith S
  pub server : Server
  pub rng : R
  -- what gives the moments
  pub clock : C
  pub handler : H
  pub pass : P
  -- how many requests were answered and have no span
  pub untraced : ℕ
  -- how many calls of handlers on the spans of requests were left out
  pub left_out : ℕ

-- the same, of the service
abbrev pub serving : {S H P R C : Type 0} → TracedService S H P R C → Serving S H P R C
serving s = record {
  tracer = s.tracing.tracer;
  server = server_view s.tracing.server s.known;
  rng = s.tracing.rng;
  clock = s.tracing.clock;
  handler = s.handler;
  pass = s.pass.now;
  untraced = s.untraced;
  left_out = s.left_out;
}

-- What a handler says of its answers: being lent the request's span, it gives this response, or
-- none for lack of memory, and leaves that span.
abbrev pub Answers : Type 0 → Type 0 → Type 1
Answers H P = H → P → LentSpan → Request (List ℕ) → Option Response → H → P → LentSpan → Type 0

-- the handler has given the response, or it gave none, and the response is a bare 503 (RFC 9110,
-- section 15.6.4)
abbrev pub Answered : {H P : Type 0} → Answers H P → H → P → LentSpan → Request (List ℕ) → Response
    → H → P → LentSpan → Type 0
Answered answers old before lent request response new after left =
    answers old before lent request (Some response) new after left
    ⊎ (answers old before lent request None new after left × IsResponse 503 [] [] response)

module _ {S H P R C : Type 0} (meaning : S → SamplerMeaning) (stream : R → Stream)
    (tells : C → ℕ → Type 0) (routes : H → Request (List ℕ) → Option (List ℕ) → Type 0)
    (answers : Answers H P)
    (admits : P → SpanData → Ended → P → Type 0) where
  -- The request has a span, a child of what it carried. The handler was lent it, with the
  -- attributes of the request, and made more calls on it, none of which is an end. Then it was
  -- handed to the pass that the handler left, with these and what the response says. It starts and
  -- ends at moments that the clock tells.
  pub record IsTraced (old : Serving S H P R C) (request : Request (List ℕ))
      (lent : Option HeldSpan)
      (response : Response) (after : P) (left : Option HeldSpan) (new : Serving S H P R C)
      : Type 0 where
    pub route : Option (List ℕ)
    pub routed : routes old.handler request route
    pub begun : ℕ
    pub begun_told : tells old.clock begun
    pub ended : ℕ
    pub ended_told : tells old.clock ended
    pub s : StartedSpan
    pub started : started_span (tracer_view meaning old.tracer)
        (server_start route old.server request begun) (words_of (stream old.rng)) ≡ Some s
    pub spent : Spends (ids_words (valid_parent (carried (head_of request).headers)))
        (stream old.rng) (stream new.rng)
    pub more : List Call
    pub no_end : list_any is_end more ≡ false
    pub lent_is : lent ≡ Some (held_span s (request_calls route old.server request))
    pub left_is : left ≡ Some (held_span s (request_calls route old.server request ++ more))
    pub handed : Handed admits s
        (request_calls route old.server request ++ more
        ++ ending_calls (ending_of response.status) ++ end ended ∷ []) after new.pass
    pub untraced : new.untraced ≡ old.untraced

  -- No span of the request was handed over, and the request is counted. The handler was lent none,
  -- since none could start, or the one that has started, for whose end memory was refused.
  pub record IsUntraced (old : Serving S H P R C) (request : Request (List ℕ))
      (lent : Option HeldSpan) (after : P) (new : Serving S H P R C) : Type 0 where
    pub route : Option (List ℕ)
    pub routed : routes old.handler request route
    pub begun : ℕ
    pub begun_told : tells old.clock begun
    pub lent_is : HasStartedOrNone (tracer_view meaning old.tracer) (stream old.rng)
        (stream new.rng) route old.server request begun lent
    pub untouched : new.pass ≡ after
    pub untraced : new.untraced ≡ counted_requests (old.untraced + 1)

  -- A request is answered: by its handler, once, and within a span, which is handed over once. The
  -- answer is the handler's, and says when it was made. The calls of the handler on the span that
  -- were left out are counted.
  pub record Serves (old : Serving S H P R C) (request : Request (List ℕ)) (response : Response)
      (new : Serving S H P R C) : Type 0 where
    pub lent : Option HeldSpan
    pub after : P
    pub left : LentSpan
    pub made : Response
    pub answered : Answered answers old.handler old.pass (lent_span lent) request made
        new.handler after left
    pub made_at : ℕ
    pub made_told : tells old.clock made_at
    pub dated : SaysDate made_at made response
    pub traced : IsTraced old request lent response after left.span new
        ⊎ IsUntraced old request lent after new
    pub left_out : new.left_out ≡ counted (old.left_out + left.left_out)
    pub tracer : new.tracer ≡ old.tracer
    pub clock : new.clock ≡ old.clock
    pub server : new.server ≡ old.server
