-- One more call on a span in the hands of a program.
use Rattle.std.proofs.Common.{◌≡◌, refl, sym, ap, ◌∙◌, ℕ, List, [], ◌∷◌, ◌++◌, Bool, true, false}
use Rattle.std.proofs.Common.{◌||◌, Option}
use Rattle.std.specs.List.{list_any}
use Rattle.std.proofs.lemmas.List.Folds.{list_any-append}
use Rattle.model_span.specs.Spans.{Call, Context, Kind, SpanRecord, SpanLimits, Resource, Scope}
use Rattle.model_span.specs.Spans.{Span, Start, Adds, end, is_end, span}
use Rattle.model_span.proofs.Live.{all-live}
use Rattle.model_span.specs.Sampling.{Decision, is_recording}
use Rattle.trace_api.specs.State.{state_view}
use Rattle.trace_api.specs.declared.span.State.{State}
use Rattle.trace_api.specs.declared.span.State.TheVariants as states
use Rattle.model_span.specs.Starts.{StartedSpan, SpanState, HeldSpan, Tracer, Ids, Does}
use Rattle.model_span.specs.Starts.{started_span_as, recording, not_recording, ended, held_span}
use Rattle.model_span.specs.Starts.{state_after, is_recording_state}

-- what is recorded of a span after some calls
abbrev recorded : StartedSpan → List Call → SpanRecord
recorded s calls = record {
  limits = s.limits;
  resource = s.resource;
  scope = s.scope;
  span = span s.limits s.start calls;
}

-- the state by whether a call is an end and whether the span was recorded
abbrev state_by : StartedSpan → List Call → Bool → Bool → SpanState
state_by s calls true d = ended
state_by s calls false true = recording (recorded s calls)
state_by s calls false false = not_recording

state-is : (s : StartedSpan) (calls : List Call) (b d : Bool) → list_any is_end calls ≡ b
    → is_recording s.decision ≡ d → state_after s calls ≡ state_by s calls b d
state-is s calls true d e f = rw e refl
state-is s calls false true e f = rw (e, f) refl
state-is s calls false false e f = rw (e, f) refl

any-more : (c : Call) (calls : List Call) (b d : Bool) → list_any is_end calls ≡ b → is_end c ≡ d
    → list_any is_end (calls ++ c ∷ []) ≡ (b || (d || false))
any-more c calls b d e f = list_any-append is_end calls (c ∷ []) ∙ rw (e, f) refl

-- what a span's state says of its calls, and its state after one more
record Told (c : Call) (x : Context) (old new : SpanState) : Type 0 where
  value : (s : StartedSpan) (calls : List Call) (b d : Bool) → list_any is_end calls ≡ b
      → is_recording s.decision ≡ d → old ≡ state_by s calls b d
      → new ≡ state_after s (calls ++ c ∷ [])

does : (c : Call) (x : Context) (old new : SpanState) → Told c x old new
    → Does c (record { context = x; state = old }) (record { context = x; state = new })
unfolding held_span
does c x old new t = record {
  context = refl;
  value = λ s calls h.
      let was : old ≡ state_after s calls = ap (λ (y : HeldSpan). y.state) h in
      let place : x ≡ s.start.context = ap (λ (y : HeldSpan). y.context) h in
      let make : Context → SpanState → HeldSpan = λ y z. record { context = y; state = z } in
      ap (λ y. make y new) place ∙ ap (make s.start.context)
      (t.value s calls (list_any is_end calls) (is_recording s.decision) refl refl
      (was ∙ state-is s calls (list_any is_end calls) (is_recording s.decision) refl refl));
}

-- A call that changes the record of a recording span is done on the held span.
pub does-recorded : (c : Call) (x : Context) (old new : SpanRecord) → is_end c ≡ false
    → Adds c old new →
    Does c (record { context = x; state = recording old })
    (record { context = x; state = recording new })
does-recorded c x old new k a = does c x (recording old) (recording new) (record { value = by })
  where
    by : (s : StartedSpan) (calls : List Call) (b d : Bool) → list_any is_end calls ≡ b
        → is_recording s.decision ≡ d → recording old ≡ state_by s calls b d
        → recording new ≡ state_after s (calls ++ c ∷ [])
    by s calls true d e f h = cc
    by s calls false false e f h = cc
    by s calls false true e f h =
        let was : old ≡ recorded s calls = cc in
        let limits = ap (λ (r : SpanRecord). r.limits) was in
        let now =
        a.value s.start calls
        (record {
          none_ends = all-live calls e;
          is = ap (λ (r : SpanRecord). r.span) was ∙ ap (λ l. span l s.start calls) (sym limits);
        }) in
        let same : new ≡ recorded s (calls ++ c ∷ []) = place-of new (recorded s (calls ++ c ∷ []))
        (a.place.limits ∙ limits) (a.place.resource ∙ ap (λ (r : SpanRecord). r.resource) was)
        (a.place.scope ∙ ap (λ (r : SpanRecord). r.scope) was)
        (now.is ∙ ap (λ l. span l s.start (calls ++ c ∷ [])) (a.place.limits ∙ limits)) in
        ap recording same
        ∙ sym (state-is s (calls ++ c ∷ []) false true (any-more c calls false false e k) f)
      where
        place-of : (r t : SpanRecord) → r.limits ≡ t.limits → r.resource ≡ t.resource
            → r.scope ≡ t.scope → r.span ≡ t.span → r ≡ t
        place-of r t l m n o =
            let make : SpanLimits → Resource → Scope → Span → SpanRecord =
            λ a b y z. record { limits = a; resource = b; scope = y; span = z } in
            ap (λ a. make a r.resource r.scope r.span) l
            ∙ ap (λ b. make t.limits b r.scope r.span) m
            ∙ ap (λ y. make t.limits t.resource y r.span) n
            ∙ ap (λ z. make t.limits t.resource t.scope z) o

-- A call other than an end leaves a span that records nothing as it is.
pub does-nothing : (c : Call) (x : Context) (state : SpanState) → is_end c ≡ false
    → is_recording_state state ≡ false →
    Does c (record { context = x; state = state }) (record { context = x; state = state })
does-nothing c x state k n = does c x state state (record { value = by state n })
  where
    by : (state : SpanState) → is_recording_state state ≡ false
        → (s : StartedSpan) (calls : List Call) (b d : Bool) → list_any is_end calls ≡ b
        → is_recording s.decision ≡ d → state ≡ state_by s calls b d
        → state ≡ state_after s (calls ++ c ∷ [])
    by (recording r) n s calls b d e f h = cc
    by not_recording n s calls true d e f h = cc
    by not_recording n s calls false true e f h = cc
    by not_recording n s calls false false e f h =
        sym (state-is s (calls ++ c ∷ []) false false (any-more c calls false false e k) f)
    by ended n s calls false true e f h = cc
    by ended n s calls false false e f h = cc
    by ended n s calls true d e f h =
        sym (state-is s (calls ++ c ∷ []) true d (any-more c calls true false e k) f)

-- An end leaves a held span in the ended state.
pub does-end : (at : ℕ) (x : Context) (state : SpanState)
    → Does (end at) (record { context = x; state = state }) (record { context = x; state = ended })
does-end at x state = does (end at) x state ended (record { value = by })
  where
    by : (s : StartedSpan) (calls : List Call) (b d : Bool) → list_any is_end calls ≡ b
        → is_recording s.decision ≡ d → state ≡ state_by s calls b d
        → ended ≡ state_after s (calls ++ end at ∷ [])
    by s calls true d e f h =
        sym (state-is s (calls ++ end at ∷ []) true d (any-more (end at) calls true true e refl) f)
    by s calls false d e f h =
        sym (state-is s (calls ++ end at ∷ []) true d (any-more (end at) calls false true e refl) f)

-- ---- no call yet

-- A span that its sampler dropped records nothing before its first call.
pub held-dropped : (s : StartedSpan) → is_recording s.decision ≡ false
    → record { context = s.start.context; state = not_recording } ≡ held_span s []
unfolding held_span
held-dropped s e = rw e refl

-- A span that its sampler records is recording before its first call.
pub held-recorded : (s : StartedSpan) → is_recording s.decision ≡ true
    → record { context = s.start.context; state = recording (recorded s []) } ≡ held_span s []
unfolding held_span
held-recorded s e = rw e refl

-- The name of a span that isn't recorded makes no difference to the held span.
pub held-as-named : (tracer : Tracer) (parent : Option Context) (kept name : List ℕ) (kind : Kind)
    (at : ℕ) (ids : Ids) (d : Decision)
    → (is_recording d ≡ true → kept ≡ name) →
    held_span
    (started_span_as tracer (record { parent = parent; name = kept; kind = kind; at = at }) ids d)
    []
    ≡ held_span
    (started_span_as tracer (record { parent = parent; name = name; kind = kind; at = at }) ids d)
    []
unfolding held_span
held-as-named tracer parent kept name kind at ids d h = by (is_recording d) refl
  where
    named : List ℕ → StartedSpan
    named n =
        started_span_as tracer (record { parent = parent; name = n; kind = kind; at = at }) ids d

    by : (b : Bool) → is_recording d ≡ b → held_span (named kept) [] ≡ held_span (named name) []
    by true e = ap (λ n. held_span (named n) []) (h e)
    by false e = sym (held-dropped (named kept) e) ∙ held-dropped (named name) e

-- The record of a span without calls has the span's own limits, resource, scope and start.
pub recorded-is : (limits : SpanLimits) (resource : Resource) (scope : Scope) (start : Start)
    (s : StartedSpan)
    → limits ≡ s.limits → resource ≡ s.resource → scope ≡ s.scope → start ≡ s.start →
    record { limits = limits; resource = resource; scope = scope; span = span limits start [] }
    ≡ recorded s []
recorded-is limits resource scope start s l r c t = rw (l, r, c, t) refl

-- ---- a span's state in the code

-- A state of the code that isn't `Recording` records nothing in the model.
pub not-recorded : {A : Type 0} (state : State A)
    → ((r : SpanRecord) → state ≡ states.Recording r → ⊥)
    → is_recording_state (state_view state) ≡ false
not-recorded (states.Recording r) h = absurd (h r refl)
not-recorded states.NotRecording h = refl
not-recorded states.Ended h = refl
