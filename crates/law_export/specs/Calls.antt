-- What the calls on a span make of it. (Trace API, Span; Trace SDK, Span Limits)
use Rattle.std.specs.Prelude.{◌≡◌, ◌≢◌, ℕ, List, [], ◌∷◌, ◌++◌, filter_map, All}
use Rattle.model_span.specs.Spans.{Status, unset, ok, error, Call, set_status, update_name, end}
use Rattle.model_span.specs.Spans.{SpanLimits, Start, live_calls, event_of, link_of, span}
use Rattle.law_export.specs.Keeping.{KeepsFirst}

-- none of the calls is an end
abbrev pub NoneEnds : List Call → Type 0
NoneEnds calls = All (λ c. (at : ℕ) → c ≢ end at) calls

-- no status is set by the call but Unset
abbrev pub SetsNoStatus : Call → Type 0
SetsNoStatus c = (s : Status) → c ≡ set_status s → s ≡ unset

abbrev pub UpdatesNoName : Call → Type 0
UpdatesNoName c = (name : List ℕ) → c ≢ update_name name

-- ---- events and links

-- The first events of the live calls are kept, and the others are counted. (Trace SDK, Span Limits)
abbrev pub FirstEventsAreKept : Type 0
FirstEventsAreKept =
    (limits : SpanLimits) (start : Start) (calls : List Call)
    → KeepsFirst limits.events (filter_map (event_of limits) (live_calls calls))
    (span limits start calls).events

-- The first links of the live calls that aren't ignored are kept, and the others are counted.
-- (Trace SDK, Span Limits; Trace API, Link)
abbrev pub FirstLinksAreKept : Type 0
FirstLinksAreKept =
    (limits : SpanLimits) (start : Start) (calls : List Call)
    → KeepsFirst limits.links (filter_map (link_of limits) (live_calls calls))
    (span limits start calls).links

-- ---- status. (Trace API, Set Status)

-- Once Ok is set before the end, the status is Ok, whatever follows.
abbrev pub OkIsFinal : Type 0
OkIsFinal =
    (limits : SpanLimits) (start : Start) (front back : List Call) → NoneEnds front
    → (span limits start (front ++ set_status ok ∷ back)).status ≡ ok

-- A call that sets Unset changes nothing.
abbrev pub UnsetIsIgnored : Type 0
UnsetIsIgnored =
    (limits : SpanLimits) (start : Start) (front back : List Call)
    → span limits start (front ++ set_status unset ∷ back) ≡ span limits start (front ++ back)

-- Without Ok the last Error counts.
abbrev pub LastErrorCounts : Type 0
LastErrorCounts =
    (limits : SpanLimits) (start : Start) (front back : List Call) (message : List ℕ)
    → NoneEnds front → All (λ c. c ≢ set_status ok) front → All SetsNoStatus (live_calls back) →
    (span limits start (front ++ set_status (error message) ∷ back)).status ≡ error message

-- Where neither is set, the status is Unset.
abbrev pub StatusBeginsUnset : Type 0
StatusBeginsUnset =
    (limits : SpanLimits) (start : Start) (calls : List Call) → All SetsNoStatus (live_calls calls)
    → (span limits start calls).status ≡ unset

-- ---- name. (Trace API, UpdateName)

-- The last update before the end counts.
abbrev pub LastNameCounts : Type 0
LastNameCounts =
    (limits : SpanLimits) (start : Start) (front back : List Call) (name : List ℕ) → NoneEnds front
    → All UpdatesNoName (live_calls back) →
    (span limits start (front ++ update_name name ∷ back)).name ≡ name

-- Without an update the name is that of the start.
abbrev pub NameBeginsAsGiven : Type 0
NameBeginsAsGiven =
    (limits : SpanLimits) (start : Start) (calls : List Call) → All UpdatesNoName (live_calls calls)
    → (span limits start calls).name ≡ start.name

-- ---- end. (Trace API, End)

-- Calls after an end change nothing.
abbrev pub CallsAfterTheEndAreIgnored : Type 0
CallsAfterTheEndAreIgnored =
    (limits : SpanLimits) (start : Start) (calls more : List Call) (at : ℕ)
    → span limits start (calls ++ end at ∷ more) ≡ span limits start (calls ++ end at ∷ [])

-- The first end is the span's.
abbrev pub FirstEndCounts : Type 0
FirstEndCounts =
    (limits : SpanLimits) (start : Start) (calls more : List Call) (at : ℕ) → NoneEnds calls
    → (span limits start (calls ++ end at ∷ more)).end ≡ at
