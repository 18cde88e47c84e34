-- A request that was sent within its span.
use Rattle.std.proofs.Common.{◌≡◌, refl, sym, ap, subst, ◌∙◌, ℕ, ◌+◌, List, [], ◌∷◌, map, Bool}
use Rattle.std.proofs.Common.{true, false, if◌then◌else◌, Option, Some, None, option_map, Result}
use Rattle.std.proofs.Common.{inl, inr, ◌⊎◌}
use Rattle.std.specs.List.{list_any}
use Rattle.rand_core.specs.Stream.{Stream}
use Rattle.trace_api.specs.Counts.{counted_requests}
use Rattle.trace_api.specs.Ends.{EndsAs}
use Rattle.model_span.specs.Attributes.{Attribute}
use Rattle.model_span.specs.Sampling.{SamplerMeaning}
use Rattle.model_span.specs.Spans.{Call, Context, SpanData, is_end, set_attribute}
use Rattle.model_span.specs.Starts.{HeldSpan, StartedSpan, held_span}
use Rattle.otlp_http.specs.Address.{Address}
use Rattle.otlp_http.specs.Replies.{HttpReply}
use Rattle.trace_api.specs.Starts.{tracer_view}
use Rattle.trace_api.specs.declared.pass.Ended.{Ended}
use Rattle.trace_context.specs.Carriers.{Field}
use Rattle.http_client.specs.declared.fault.SendFault.{SendFault}
use Rattle.traced_http.specs.Sends.{Asks, ClientWith, IsTraced, IsUntraced}
use Rattle.traced_http.specs.Sends.{Sends, Starts}
use Rattle.traced_http.specs.ClientSpans.{HasStarted, HasStartedOrNone, carried_by}
use Rattle.traced_http.specs.ClientSpans.{closing_calls, request_calls, request_pairs}

-- no attribute is an end
none-ends : (pairs : List Attribute) → list_any is_end (map set_attribute pairs) ≡ false
none-ends [] = refl
none-ends (p ∷ pairs) = none-ends pairs

-- a span keeps the context that it started with
context-is : (s : StartedSpan) (calls : List Call) (held : HeldSpan) → held ≡ held_span s calls
    → held.context ≡ s.start.context
unfolding held_span
context-is s calls held h = ap (λ (x : HeldSpan). x.context) h

module _ {S R C D P : Type 0} (meaning : S → SamplerMeaning) (stream : R → Stream)
    (tells : C → ℕ → Type 0) (admits : P → SpanData → Ended → P → Type 0) where
  -- the span of a request has started
  starts-is : (old new : ClientWith S R C D) (parent : Option Context) (method : List ℕ)
      (address : Address) (begun : ℕ)
      (held : HeldSpan)
      → tells old.clock begun
      → (h : HasStarted (tracer_view meaning old.tracer) (stream old.rng)
      (stream new.rng) old.methods parent method address begun held)
      → Starts meaning stream tells admits old parent method h.s new
  starts-is old new parent method address begun held b h =
      record { begun = begun; begun_told = b; started = h.started; spent = h.spent }

  -- it has ended
  traced-is : (old new : ClientWith S R C D) (parent : Option Context) (method : List ℕ)
      (address : Address)
      (before after : P) (result : Result HttpReply SendFault) (begun at : ℕ) (held : HeldSpan)
      → tells old.clock begun → tells old.clock at
      → HasStarted (tracer_view meaning old.tracer) (stream old.rng)
      (stream new.rng) old.methods parent method address begun held
      → EndsAs admits (closing_calls result) at held before after
      → new.untraced ≡ old.untraced
      → IsTraced meaning stream tells admits old parent method address
      (Some held.context) before result new after
  traced-is old new parent method address before after result begun at held b t h e n = record {
    s = h.s;
    starts = starts-is old new parent method address begun held b h;
    is_carried = ap Some (context-is h.s (request_calls old.methods method address) held h.held);
    ended = at;
    ended_told = t;
    handed =
        e.value h.s (request_calls old.methods method address) h.held
        (none-ends (request_pairs old.methods method address));
    untraced = n;
  }

  -- A traced client gets its result, and hands over the request's span or counts the request as
  -- untraced.
  pub sends : (asks : Asks D) (old new : ClientWith S R C D) (parent : Option Context)
      (method : List ℕ) (address : Address)
      (before after : P) (result : Result HttpReply SendFault) (begun at : ℕ)
      (span made : Option HeldSpan) (fields : List Field) (has_ended : Bool)
      → tells old.clock begun → tells old.clock at
      → HasStartedOrNone (tracer_view meaning old.tracer) (stream old.rng)
      (stream new.rng) old.methods parent method address begun made
      → (span ≡ None) ⊎ (span ≡ made)
      → fields ≡ carried_by (option_map (λ (held : HeldSpan). held.context) span)
      → asks fields old.dial new.dial result
      → (has_ended ≡ true
      → (held : HeldSpan) × (span ≡ Some held)
      × EndsAs admits (closing_calls result) at held before after)
      → (has_ended ≡ false → after ≡ before)
      → new.untraced ≡ (if has_ended then old.untraced else counted_requests (old.untraced + 1))
      → new.tracer ≡ old.tracer → new.clock ≡ old.clock → new.methods ≡ old.methods
      → Sends meaning stream tells admits asks old parent method address before result new after
  sends asks old new parent method address before after result begun at span made fields has_ended
      begun_told ended_told started sent_with carried asked ends none counted tracer clock methods
      =
      record {
        context = option_map (λ (held : HeldSpan). held.context) span;
        asked = subst (λ f. asks f old.dial new.dial result) carried asked;
        traced = by has_ended ends none counted;
        tracer = tracer;
        clock = clock;
        methods = methods;
      }
    where
      context-of : Option HeldSpan → Option Context
      context-of = option_map (λ (held : HeldSpan). held.context)

      has-started : (x y : Option HeldSpan) (held : HeldSpan) → x ≡ Some held
          → (x ≡ None) ⊎ (x ≡ y)
          → HasStartedOrNone (tracer_view meaning old.tracer) (stream old.rng)
          (stream new.rng) old.methods parent method address begun y
          → HasStarted (tracer_view meaning old.tracer) (stream old.rng)
          (stream new.rng) old.methods parent method address begun held
      has-started x y held is (inl none) s = let no : Some held ≡ None = sym is ∙ none in cc
      has-started x None held is (inr same) s = let no : Some held ≡ None = sym is ∙ same in cc
      has-started x (Some y) held is (inr same) s =
          let one : y ≡ held = cc in
          subst (HasStarted (tracer_view meaning old.tracer) (stream old.rng)
          (stream new.rng) old.methods parent method address begun)
          one s

      with-span : (x : Option HeldSpan) (held : HeldSpan) → x ≡ Some held
          → (x ≡ None) ⊎ (x ≡ made)
          → EndsAs admits (closing_calls result) at held before after
          → new.untraced ≡ old.untraced
          → IsTraced meaning stream tells admits old parent method address
          (context-of x) before result new after
      with-span None held h w e n = cc
      with-span (Some y) held h w e n =
          let same : y ≡ held = cc in
          traced-is old new parent method address before after result begun at y
          begun_told ended_told
          (has-started (Some y) made y refl w started)
          (subst (λ z. EndsAs admits (closing_calls result) at z before after)
          (sym same) e)
          n

      carries : (x y : Option HeldSpan) → (x ≡ None) ⊎ (x ≡ y)
          → (context-of x ≡ None) ⊎ (context-of x ≡ context-of y)
      carries x y (inl none) = inl (ap context-of none)
      carries x y (inr same) = inr (ap context-of same)

      by : (b : Bool)
          → (b ≡ true
          → (held : HeldSpan) × (span ≡ Some held)
          × EndsAs admits (closing_calls result) at held before after)
          → (b ≡ false → after ≡ before)
          → new.untraced ≡ (if b then old.untraced else counted_requests (old.untraced + 1))
          → IsTraced meaning stream tells admits old parent method address
          (option_map (λ (held : HeldSpan). held.context) span) before result new after
          ⊎ IsUntraced meaning stream tells admits old parent method address
          (option_map (λ (held : HeldSpan). held.context) span) before new after
      by true e u n = let h = e refl in inl (with-span span h.0 h.1 sent_with h.2 n)
      by false e u n =
          inr (record {
            begun = begun;
            begun_told = begun_told;
            span = made;
            started = started;
            carried = carries span made sent_with;
            untouched = u refl;
            untraced = n;
          })
