-- The fields that a context adds.
use Rattle.std.proofs.Common.{◌≡◌, ℕ, true, false, List, [], ◌∷◌, ◌++◌, append_assoc, codes}
use Rattle.std.proofs.Common.{inl, refl, subst, sym, ◌∙◌, length, OnErr, Result, Ok, Err}
use Rattle.std.specs.Str.{is_utf8, chars}
use lib.Utf8.{encode}
use Rattle.model_span.specs.Attributes.{is_empty}
use Rattle.model_span.specs.Spans.{Context, is_valid}
use Rattle.trace_context.specs.Outgoing.{traceparent_text}
use Rattle.httparse.specs.Grammar.{trim_ows}
use Rattle.trace_context.specs.Tracestate.{entries_in, tracestate}
use Rattle.trace_context.specs.Carriers.{Field, OutgoingTakesMemory, outgoing}
use Rattle.trace_context.specs.Carriers.{state_fields}

-- The `traceparent` of a valid context and then its state fields are its outgoing fields.
pub added : (c : Context) (old mid new : List Field) (text state : List ℕ) → is_valid c ≡ true
    → text ≡ traceparent_text c → state ≡ tracestate (c.state ∷ [])
    → mid ≡ old ++ (codes "traceparent", text) ∷ [] → new ≡ mid ++ state_fields state
    → new ≡ old ++ outgoing c
unfolding outgoing
added c old mid new text state valid is_text is_state first rest =
    rw (rest, first, is_text, is_state, valid)
    (append_assoc old ((codes "traceparent", traceparent_text c) ∷ [])
    (state_fields (tracestate (c.state ∷ []))))

-- Nothing goes out of an empty trace state.
no-state : tracestate ([] ∷ []) ≡ []
unfolding tracestate entries_in trim_ows is_utf8 chars encode
no-state = refl

-- No bytes are a trace state of which nothing goes out.
pub nothing-out : (state bytes out : List ℕ) → bytes ≡ state → length bytes ≡ 0 → out ≡ []
    → out ≡ tracestate (state ∷ [])
nothing-out [] bytes out is none nothing = nothing ∙ sym no-state
nothing-out (b ∷ state) bytes out is none nothing = cc

-- A trace state of which something goes out isn't empty.
has-state : (state : List ℕ) → is_empty (tracestate (state ∷ [])) ≡ false → is_empty state ≡ false
has-state [] h = subst (λ s. is_empty s ≡ false) no-state h
has-state (b ∷ state) h = refl

-- A context takes memory where something goes out of its trace state.
pub takes_memory : {T E : Type 0} (result : Result T E) (refuses : List ℕ → List ℕ → Type 0)
    (c : Context) (state : List ℕ) → is_valid c ≡ true → state ≡ tracestate (c.state ∷ [])
    → is_empty state ≡ false → OnErr result (OutgoingTakesMemory refuses c)
takes_memory (Ok done) refuses c state valid is some = tt
takes_memory (Err fault) refuses c state valid is some =
    (valid, inl (has-state c.state (subst (λ s. is_empty s ≡ false) is some)))
