-- A span that starts, and is then called.
use Rattle.std.proofs.Common.{◌≡◌, refl, sym, ap, ◌∙◌, List, [], ◌++◌, Bool, true, false, inl}
use Rattle.std.proofs.Common.{Option, Result, Ok, Err, IsErrAnd}
use Rattle.model_span.specs.Spans.{Call}
use Rattle.model_span.specs.Sampling.{is_recording}
use Rattle.model_span.specs.Starts.{HeldSpan, StartedSpan, held_span, is_recording_state}
use Rattle.model_span.specs.Starts.{state_after}
use Rattle.trace_api.specs.Starts.{StartsAs}
use Rattle.trace_api.specs.declared.provider.StartFault.{StartFault}
use Rattle.trace_api.specs.declared.provider.StartFault.TheVariants.{NoRandomness, OutOfMemory}
use Rattle.trace_api.specs.Request.{StartsWith}
use Rattle.trace_api.specs.ExtCalls.{DoesAll}
use Rattle.trace_api.proofs.Made.{does-both}

-- A span on which calls count before any was made is recorded.
records : (s : StartedSpan) (h : HeldSpan) → h ≡ held_span s [] → is_recording_state h.state ≡ true
    → is_recording s.decision ≡ true
unfolding held_span
records s h e counts = by (is_recording s.decision) refl
  where
    on : is_recording_state (state_after s []) ≡ true
    on = ap (λ (x : HeldSpan). is_recording_state x.state) (sym e) ∙ counts

    by : (b : Bool) → is_recording s.decision ≡ b → is_recording s.decision ≡ true
    by true f = f
    by false f =
        let off : is_recording_state (state_after s []) ≡ false = rw f refl in
        f ∙ (sym off ∙ on)

-- A start with calls gives no span where the start alone gives none, for the same reason.
pub as-not-started : (there : Option StartedSpan) (calls : List Call)
    (r : Result HeldSpan StartFault) (fault : StartFault)
    → IsErrAnd r (λ f. f ≡ fault) → StartsAs there (Err fault) → StartsWith there calls r
as-not-started there calls (Ok span) fault h is = absurd h
as-not-started there calls (Err NoRandomness) NoRandomness h is = is
as-not-started there calls (Err OutOfMemory) OutOfMemory h is = is
as-not-started there calls (Err NoRandomness) OutOfMemory h is = cc
as-not-started there calls (Err OutOfMemory) NoRandomness h is = cc

-- A start with calls may lack memory where the started span records its calls.
pub as-refused : (there : Option StartedSpan) (calls : List Call) (r : Result HeldSpan StartFault)
    (h : HeldSpan)
    → IsErrAnd r (λ f. f ≡ OutOfMemory) → StartsAs there (Ok h) → is_recording_state h.state ≡ true
    → StartsWith there calls r
as-refused there calls (Ok span) h e is counts = absurd e
as-refused there calls (Err NoRandomness) h e is counts = cc
as-refused there calls (Err OutOfMemory) h e is counts =
    (is.0, is.1, inl (records is.0 h is.2 counts))

-- A span that starts and then gets the calls of two lists is the start with all these calls.
pub as-called : (there : Option StartedSpan) (xs ys : List Call) (a b c : HeldSpan)
    → StartsAs there (Ok a) → DoesAll xs a b → DoesAll ys b c → StartsWith there (xs ++ ys) (Ok c)
as-called there xs ys a b c is f g = (is.0, is.1, (does-both xs ys a b c f g).value is.0 [] is.2)
