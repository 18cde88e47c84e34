-- A span after more calls.
use Rattle.std.proofs.Common.{◌≡◌, refl, sym, subst, ◌∙◌, ap, ℕ, inl, inr, true, false, [], ◌∷◌}
use Rattle.std.proofs.Common.{◌++◌, append_assoc, Option, Some, None, Result, Ok, Err, OnOk, OnErr}
use Rattle.std.proofs.lemmas.List.{append-nil}
use Rattle.std.proofs.lemmas.List.Folds.{list_any-append}
use Rattle.model_span.specs.Spans.{Call, is_end}
use Rattle.model_span.specs.Starts.{Does, HeldSpan, held_span, is_recording_state}
use Rattle.traced_http.specs.RequestSpans.{GoesOn, GoesOnIfAny, MakesOrLeavesOut, left_out_after}

-- A span is itself, after no call.
pub stays : (span : Option HeldSpan) → GoesOnIfAny span span
stays None = tt
stays (Some span) = record {
  more = [];
  no_end = refl;
  does = record {
    context = refl;
    value = λ s calls h. h ∙ ap (held_span s) (sym (append-nil calls));
  };
}

-- one more call that is no end
one-more : (first old new : HeldSpan) (call : Call) → GoesOn first old → is_end call ≡ false
    → Does call old new → GoesOn first new
one-more first old new call g none d = record {
  more = g.more ++ call ∷ [];
  no_end = list_any-append is_end g.more (call ∷ []) ∙ rw (g.no_end, none) refl;
  does = record {
    context = d.context ∙ g.does.context;
    value = λ s calls h.
        d.value s (calls ++ g.more) (g.does.value s calls h)
        ∙ ap (held_span s) (append_assoc calls g.more (call ∷ []));
  };
}

-- A span that goes on goes on after a call that is no end, which is made or refused.
pub goes_on : {T E : Type 0} (first : Option HeldSpan) (old new : HeldSpan) (call : Call)
    (done : Result T E)
    → GoesOnIfAny first (Some old) → is_end call ≡ false
    → OnOk done (Does call old new) → OnErr done (new ≡ old) → GoesOnIfAny first (Some new)
goes_on None old new call done g none ok err = absurd g
goes_on (Some first) old new call (Ok done) g none ok err = one-more first old new call g none ok
goes_on (Some first) old new call (Err fault) g none ok err =
    subst (λ s. GoesOn first s) (sym err) g

-- A call that is made or refused is made, or is left out and counted.
pub calls_span : {T E : Type 0} (call : Call) (old new : HeldSpan) (n : ℕ) (done : Result T E)
    → OnOk done (Does call old new) → OnErr done (new ≡ old)
    → OnErr done (is_recording_state old.state ≡ true)
    → MakesOrLeavesOut call (Some old) (Some new) n (left_out_after done n)
calls_span call old new n (Ok done) ok err refused = inl (ok, refl)
calls_span call old new n (Err fault) ok err refused = inr (refused, err, refl)
