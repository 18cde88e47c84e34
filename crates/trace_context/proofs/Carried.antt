-- The context that fields carry, as it is read again.
use Rattle.std.proofs.Common.{◌≡◌, ℕ, List, [], ◌∷◌, Some, refl, ap, ◌∙◌, codes, IsTrue}
use Rattle.std.specs.Str.{chars, is_utf8}
use lib.Utf8.{encode}
use Rattle.model_span.specs.Spans.{Context, is_valid}
use Rattle.trace_context.specs.Traceparent.{traceparent}
use Rattle.trace_context.specs.Outgoing.{HasSizes, as_read, traceparent_text}
use Rattle.trace_context.specs.Tracestate.{tracestate}
use Rattle.trace_context.specs.Carriers.{Field, extracted, is_same_name, outgoing, parent_in}
use Rattle.trace_context.specs.Carriers.{state_fields, value_in, values_of}
use Rattle.trace_context.proofs.ReadBack.{read_back}

-- the fields of a `traceparent` and a trace state
abbrev fields_of : List ℕ → List ℕ → List Field
fields_of parent state = (codes "traceparent", parent) ∷ state_fields state

parents : (parent state : List ℕ)
    → values_of (codes "traceparent") (fields_of parent state) ≡ parent ∷ []
unfolding is_same_name value_in
parents parent [] = refl
parents parent (b ∷ bytes) = refl

no_state : tracestate [] ≡ []
unfolding tracestate is_utf8 chars encode
no_state = refl

states : (parent state : List ℕ) → tracestate (state ∷ []) ≡ state
    → tracestate (values_of (codes "tracestate") (fields_of parent state)) ≡ state
unfolding is_same_name value_in
states parent [] same = no_state
states parent (b ∷ bytes) same = same

carried : (parent state : List ℕ) (c : Context) → traceparent parent ≡ Some c
    → tracestate (state ∷ []) ≡ state
    → extracted (fields_of parent state) ≡ Some (record c { state = state })
unfolding extracted parent_in
carried parent state c is same = rw (parents parent state, is, states parent state same) refl

goes_out : (c : Context) → IsTrue (is_valid c) → tracestate (c.state ∷ []) ≡ c.state
    → outgoing c ≡ fields_of (traceparent_text c) c.state
unfolding outgoing
goes_out c valid same = rw (valid, same) refl

-- A valid context with a well-formed state is read back from its outgoing fields.
pub contexts_read_back : (c : Context) → HasSizes c → IsTrue (is_valid c)
    → tracestate (c.state ∷ []) ≡ c.state
    → extracted (outgoing c) ≡ Some (record (as_read c) { state = c.state })
contexts_read_back c sizes valid same =
    ap extracted (goes_out c valid same)
    ∙ carried (traceparent_text c) c.state (as_read c) (read_back c sizes valid) same
