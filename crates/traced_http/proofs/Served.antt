-- A request that was answered within its span.
use Rattle.std.proofs.Common.{◌≡◌, refl, sym, ap, subst, ℕ, ◌+◌, List, [], ◌∷◌, ◌++◌, map, Bool}
use Rattle.std.proofs.Common.{true, false, if◌then◌else◌, Option, Some, None}
use Rattle.std.proofs.Common.{◌⊎◌, inl, inr}
use Rattle.std.specs.List.{list_any}
use Rattle.rand_core.specs.Stream.{Stream}
use Rattle.http.specs.declared.request.Request.{Request}
use Rattle.http_server.specs.declared.response.Response.{Response}
use Rattle.trace_api.specs.Counts.{counted_requests}
use Rattle.trace_api.specs.Endings.{ending_calls}
use Rattle.trace_api.specs.Ends.{EndsAs}
use Rattle.model_span.specs.Attributes.{Attribute}
use Rattle.model_span.specs.Sampling.{SamplerMeaning}
use Rattle.model_span.specs.Spans.{Call, SpanData, is_end, set_attribute}
use Rattle.model_span.specs.Starts.{HeldSpan, held_span}
use Rattle.trace_api.specs.Starts.{tracer_view}
use Rattle.trace_api.specs.declared.pass.Ended.{Ended}
use Rattle.traced_http.specs.Attributes.{ending_of, request_pairs}
use Rattle.http.specs.Request.{head_of}
use Rattle.http_connection.specs.Dates.{SaysDate}
use Rattle.traced_http.specs.RequestSpans.{GoesOn, GoesOnIfAny, LentSpan, counted, lent_span}
use Rattle.traced_http.specs.Serves.{Answered, Answers, IsTraced, IsUntraced, Serves, Serving}
use Rattle.traced_http.specs.ServerSpans.{HasStarted, HasStartedOrNone, request_calls}

-- no attribute is an end, and none of more calls
none-ends : (pairs : List Attribute) (more : List Call) → list_any is_end more ≡ false
    → list_any is_end (map set_attribute pairs ++ more) ≡ false
none-ends [] more h = h
none-ends (p ∷ pairs) more h = none-ends pairs more h

module _ {S H P R C : Type 0} (meaning : S → SamplerMeaning) (stream : R → Stream)
    (tells : C → ℕ → Type 0)
    (routes : H → Request (List ℕ) → Option (List ℕ) → Type 0) (answers : Answers H P)
    (admits : P → SpanData → Ended → P → Type 0) where
  -- it has ended
  traced-is : (old new : Serving S H P R C) (request : Request (List ℕ)) (response : Response)
      (after : P) (route : Option (List ℕ)) (begun at : ℕ) (lent left : HeldSpan)
      → tells old.clock begun → tells old.clock at
      → routes old.handler request route
      → HasStarted (tracer_view meaning old.tracer) (stream old.rng)
      (stream new.rng) route old.server request begun lent
      → GoesOn lent left
      → EndsAs admits (ending_calls (ending_of response.status)) at left after new.pass
      → new.untraced ≡ old.untraced
      → IsTraced meaning stream tells routes answers admits old request
      (Some lent) response after (Some left) new
  traced-is old new request response after route begun at lent left b t r h g e n = record {
    route = route;
    routed = r;
    begun = begun;
    begun_told = b;
    ended = at;
    ended_told = t;
    s = h.s;
    started = h.started;
    spent = h.spent;
    more = g.more;
    no_end = g.no_end;
    lent_is = ap Some h.held;
    left_is = ap Some now;
    handed =
        e.value h.s (request_calls route old.server request ++ g.more) now
        (none-ends (request_pairs (head_of request) route old.server) g.more g.no_end);
    untraced = n;
  }
    where
      now : left ≡ held_span h.s (request_calls route old.server request ++ g.more)
      now = g.does.value h.s (request_calls route old.server request) h.held

  -- A traced server answers a request, and hands over its span or counts the request as untraced.
  pub serves : (old new : Serving S H P R C) (request : Request (List ℕ)) (made response : Response)
      (after : P) (route : Option (List ℕ)) (begun at : ℕ) (lent : Option HeldSpan)
      (left : LentSpan) (has_ended : Bool)
      → tells old.clock begun → tells old.clock at
      → routes old.handler request route
      → HasStartedOrNone (tracer_view meaning old.tracer) (stream old.rng)
      (stream new.rng) route old.server request begun lent
      → GoesOnIfAny lent left.span
      → Answered answers old.handler old.pass (lent_span lent) request made new.handler after left
      → SaysDate at made response
      → (has_ended ≡ true
      → (held : HeldSpan) × (left.span ≡ Some held)
      × EndsAs admits (ending_calls (ending_of made.status)) at held after new.pass)
      → (has_ended ≡ false → new.pass ≡ after)
      → new.untraced ≡ (if has_ended then old.untraced else counted_requests (old.untraced + 1))
      → new.left_out ≡ counted (old.left_out + left.left_out)
      → new.tracer ≡ old.tracer → new.clock ≡ old.clock → new.server ≡ old.server
      → Serves meaning stream tells routes answers admits old request response new
  serves old new request made response after route begun at lent left has_ended begun_told
      ended_told r started goes answered dated ends none counted_as left_out t k v =
      record {
        lent = lent;
        after = after;
        left = left;
        made = made;
        answered = answered;
        made_at = at;
        made_told = ended_told;
        dated = dated;
        traced =
            by has_ended
            (subst (λ s. has_ended ≡ true
            → (held : HeldSpan) × (left.span ≡ Some held)
            × EndsAs admits (ending_calls (ending_of s)) at held after new.pass)
            (sym dated.status) ends)
            none counted_as;
        left_out = left_out;
        tracer = t;
        clock = k;
        server = v;
      }
    where
      with-span : (x y : Option HeldSpan) (held : HeldSpan) → y ≡ Some held
          → HasStartedOrNone (tracer_view meaning old.tracer) (stream old.rng)
          (stream new.rng) route old.server request begun x
          → GoesOnIfAny x y
          → EndsAs admits (ending_calls (ending_of response.status)) at held after new.pass
          → new.untraced ≡ old.untraced
          → IsTraced meaning stream tells routes answers admits old request x response after y new
      with-span None None held h s g e n = cc
      with-span (Some x) None held h s g e n = absurd g
      with-span None (Some y) held h s g e n = absurd g
      with-span (Some x) (Some y) held h s g e n =
          let same : y ≡ held = cc in
          traced-is old new request response after route begun at x y begun_told ended_told r s g
          (subst (λ z. EndsAs admits (ending_calls (ending_of response.status)) at z after new.pass)
          (sym same) e)
          n

      by : (b : Bool)
          → (b ≡ true
          → (held : HeldSpan) × (left.span ≡ Some held)
          × EndsAs admits (ending_calls (ending_of response.status)) at held after new.pass)
          → (b ≡ false → new.pass ≡ after)
          → new.untraced ≡ (if b then old.untraced else counted_requests (old.untraced + 1))
          → IsTraced meaning stream tells routes answers admits old request lent response after
          left.span
          new
          ⊎ IsUntraced meaning stream tells routes answers admits old request lent after new
      by true e u n = let h = e refl in inl (with-span lent left.span h.0 h.1 started goes h.2 n)
      by false e u n =
          inr (record {
            route = route;
            routed = r;
            begun = begun;
            begun_told = begun_told;
            lent_is = started;
            untouched = u refl;
            untraced = n;
          })
