-- What the calls on a span make of it.
use Rattle.std.proofs.Common.{◌≡◌, ◌≢◌, refl, sym, ap, ap₂, ◌∙◌, ℕ, List, [], ◌∷◌, ◌++◌, cond, drop}
use Rattle.std.proofs.Common.{Bool, true, false, not, ◌||◌, filter, Option, None, arith}
use Rattle.std.specs.List.{All, AllByRecursion, filter_map, cons_option, list_any}
use Rattle.std.proofs.lemmas.List.{length-take, take-append-drop}
use Rattle.std.proofs.lemmas.List.Sums.{take_while-cons}
use Rattle.std.proofs.lemmas.List.Elements.{filter-append, filter_map-append, recursion_from_All}
use Rattle.std.proofs.lemmas.List.Folds.{list_any-append}
use Rattle.model_span.specs.Attributes.{last_or, attributes}
use Rattle.model_span.specs.Spans.{Status, unset, ok, error, Call, set_attribute, add_event}
use Rattle.model_span.specs.Spans.{record_exception, add_link, set_status, update_name, end}
use Rattle.model_span.specs.Spans.{SpanLimits, Start, is_end, live_calls, first_kept, first_or}
use Rattle.model_span.specs.Spans.{end_of, event_of, link_of, name_of, status_of, attribute_of}
use Rattle.model_span.specs.Spans.{is_ok_status, is_error, final_status, Span, span}
use Rattle.law_export.specs.Keeping.{KeepsFirst}
use Rattle.law_export.proofs.Lists.{last-append}
use Rattle.law_export.specs.Calls.{NoneEnds, SetsNoStatus, UpdatesNoName}

-- ---- the first are kept

-- The first elements are kept, up to the limit, and the others are counted.
pub first-keeps : {A : Type 0} (limit : ℕ) (all : List A)
    → KeepsFirst limit all (first_kept limit all)
first-keeps limit all = record {
  front = (drop limit all, sym (take-append-drop limit all));
  size = length-take limit all;
  others = refl;
  sum = λ small. let size = length-take limit all in omega (arith, size, small);
}

-- The first events of a span are kept, up to the limit, and the others are counted.
pub events-kept : (limits : SpanLimits) (start : Start) (calls : List Call)
    → KeepsFirst limits.events (filter_map (event_of limits) (live_calls calls))
    (span limits start calls).events
unfolding span
events-kept limits start calls =
    first-keeps limits.events (filter_map (event_of limits) (live_calls calls))

-- The first links of a span are kept, up to the limit, and the others are counted.
pub links-kept : (limits : SpanLimits) (start : Start) (calls : List Call)
    → KeepsFirst limits.links (filter_map (link_of limits) (live_calls calls))
    (span limits start calls).links
unfolding span
links-kept limits start calls =
    first-keeps limits.links (filter_map (link_of limits) (live_calls calls))

-- ---- the calls before the first end

no-end : (c : Call) → ((at : ℕ) → c ≢ end at) → is_end c ≡ false
no-end (set_attribute p) h = refl
no-end (add_event name at pairs) h = refl
no-end (record_exception kind message stack at pairs) h = refl
no-end (add_link context pairs) h = refl
no-end (set_status s) h = refl
no-end (update_name name) h = refl
no-end (end at) h = absurd (h at refl)

live-cons : (c : Call) (calls : List Call)
    → live_calls (c ∷ calls) ≡ cond (not (is_end c)) (c ∷ live_calls calls) []
live-cons c calls = take_while-cons (λ d. not (is_end d)) c calls

live-front : (front back : List Call) → AllByRecursion (λ c. (at : ℕ) → c ≢ end at) front
    → live_calls (front ++ back) ≡ front ++ live_calls back
live-front [] back h = refl
live-front (c ∷ front) back h =
    live-cons c (front ++ back)
    ∙ ap (λ t. cond (not t) (c ∷ live_calls (front ++ back)) []) (no-end c h.0)
    ∙ ap (λ l. c ∷ l) (live-front front back h.1)

-- A call that is no end, and that comes after no end, counts.
live-at : (front back : List Call) (c : Call) → NoneEnds front → is_end c ≡ false
    → live_calls (front ++ c ∷ back) ≡ front ++ c ∷ live_calls back
live-at front back c h e =
    live-front front (c ∷ back) (recursion_from_All (λ d. (at : ℕ) → d ≢ end at) front h)
    ∙ ap (λ l. front ++ l) (live-cons c back ∙ ap (λ t. cond (not t) (c ∷ live_calls back) []) e)

live-end : (calls more : List Call) (at : ℕ)
    → live_calls (calls ++ end at ∷ more) ≡ live_calls calls
live-end [] more at = live-cons (end at) more
live-end (c ∷ calls) more at =
    live-cons c (calls ++ end at ∷ more)
    ∙ ap (λ l. cond (not (is_end c)) (c ∷ l) []) (live-end calls more at) ∙ sym (live-cons c calls)

-- ---- the last that counts

-- What is gathered of the calls that count has, in the middle, what the call in the middle gives.
made-at : {A : Type 0} (h : Call → Option A) (front back : List Call) (c : Call) → NoneEnds front
    → is_end c ≡ false
    → filter_map h (live_calls (front ++ c ∷ back))
    ≡ filter_map h front ++ cons_option (h c) (filter_map h (live_calls back))
made-at h front back c none e =
    ap (filter_map h) (live-at front back c none e)
    ∙ filter_map-append h front (c ∷ live_calls back)

made-none : {A : Type 0} (h : Call → Option A) (P : Call → Type 0) → ((c : Call) → P c → h c ≡ None)
    → (calls : List Call) → AllByRecursion P calls → filter_map h calls ≡ []
made-none h P none [] p = refl
made-none h P none (c ∷ calls) p =
    ap₂ (λ o l. cons_option o l) (none c p.0) (made-none h P none calls p.1)

no-name : (c : Call) → UpdatesNoName c → name_of c ≡ None
no-name (set_attribute p) h = refl
no-name (add_event name at pairs) h = refl
no-name (record_exception kind message stack at pairs) h = refl
no-name (add_link context pairs) h = refl
no-name (set_status s) h = refl
no-name (update_name name) h = absurd (h name refl)
no-name (end at) h = refl

no-names : (calls : List Call) → All UpdatesNoName calls → filter_map name_of calls ≡ []
no-names calls h =
    made-none name_of UpdatesNoName no-name calls (recursion_from_All UpdatesNoName calls h)

-- A span has the name of the last update before its end.
pub last-name : (limits : SpanLimits) (start : Start) (front back : List Call) (name : List ℕ)
    → NoneEnds front → All UpdatesNoName (live_calls back) →
    (span limits start (front ++ update_name name ∷ back)).name ≡ name
unfolding span
last-name limits start front back name none h =
    ap (last_or start.name)
    (made-at name_of front back (update_name name) none refl
    ∙ ap (λ l. filter_map name_of front ++ name ∷ l) (no-names (live_calls back) h))
    ∙ last-append start.name (filter_map name_of front) name

-- A span whose name is never updated has the name of its start.
pub first-name : (limits : SpanLimits) (start : Start) (calls : List Call)
    → All UpdatesNoName (live_calls calls) → (span limits start calls).name ≡ start.name
unfolding span
first-name limits start calls h = ap (last_or start.name) (no-names (live_calls calls) h)

-- ---- status

-- statuses of which each is Unset
abbrev AllUnset : List Status → Type 0
AllUnset set = AllByRecursion (λ s. s ≡ unset) set

unset-statuses : (calls : List Call) → AllByRecursion SetsNoStatus calls
    → AllUnset (filter_map status_of calls)
unset-statuses [] h = tt
unset-statuses (set_attribute p ∷ calls) h = unset-statuses calls h.1
unset-statuses (add_event name at pairs ∷ calls) h = unset-statuses calls h.1
unset-statuses (record_exception kind message stack at pairs ∷ calls) h = unset-statuses calls h.1
unset-statuses (add_link context pairs ∷ calls) h = unset-statuses calls h.1
unset-statuses (set_status s ∷ calls) h = (h.0 s refl, unset-statuses calls h.1)
unset-statuses (update_name name ∷ calls) h = unset-statuses calls h.1
unset-statuses (end at ∷ calls) h = unset-statuses calls h.1

none-ok : (set : List Status) → AllUnset set → list_any is_ok_status set ≡ false
none-ok [] h = refl
none-ok (s ∷ set) h = ap₂ (λ a b. is_ok_status a || b) h.0 (none-ok set h.1)

none-error : (set : List Status) → AllUnset set → filter is_error set ≡ []
none-error [] h = refl
none-error (s ∷ set) h = ap₂ (λ t l. cond t (s ∷ l) l) (ap is_error h.0) (none-error set h.1)

no-ok : (calls : List Call) → AllByRecursion (λ c. c ≢ set_status ok) calls
    → list_any is_ok_status (filter_map status_of calls) ≡ false
no-ok [] h = refl
no-ok (set_attribute p ∷ calls) h = no-ok calls h.1
no-ok (add_event name at pairs ∷ calls) h = no-ok calls h.1
no-ok (record_exception kind message stack at pairs ∷ calls) h = no-ok calls h.1
no-ok (add_link context pairs ∷ calls) h = no-ok calls h.1
no-ok (set_status unset ∷ calls) h = no-ok calls h.1
no-ok (set_status ok ∷ calls) h = absurd (h.0 refl)
no-ok (set_status (error t) ∷ calls) h = no-ok calls h.1
no-ok (update_name name ∷ calls) h = no-ok calls h.1
no-ok (end at ∷ calls) h = no-ok calls h.1

or-true : (t : Bool) → (t || true) ≡ true
or-true true = refl
or-true false = refl

-- the final status, by whether Ok is among the statuses and by the errors among them
abbrev status_by : Bool → List Status → Status
status_by has errors = cond has ok (last_or unset errors)

ok-final : (before later : List Status) → final_status (before ++ ok ∷ later) ≡ ok
ok-final before later =
    ap (λ t. status_by t (filter is_error (before ++ ok ∷ later)))
    (list_any-append is_ok_status before (ok ∷ later) ∙ or-true (list_any is_ok_status before))

unset-ignored : (before later : List Status)
    → final_status (before ++ unset ∷ later) ≡ final_status (before ++ later)
unset-ignored before later =
    ap₂ status_by
    (list_any-append is_ok_status before (unset ∷ later)
    ∙ sym (list_any-append is_ok_status before later))
    (filter-append is_error before (unset ∷ later) ∙ sym (filter-append is_error before later))

error-last : (before later : List Status) (t : List ℕ) → list_any is_ok_status before ≡ false
    → AllUnset later → final_status (before ++ error t ∷ later) ≡ error t
error-last before later t none h =
    ap₂ status_by
    (list_any-append is_ok_status before (error t ∷ later)
    ∙ ap₂ (λ a b. a || b) none (none-ok later h))
    (filter-append is_error before (error t ∷ later)
    ∙ ap (λ l. filter is_error before ++ error t ∷ l) (none-error later h))
    ∙ last-append unset (filter is_error before) (error t)

-- A span whose status was set to Ok before its end has this status, whatever follows.
pub ok-is-final : (limits : SpanLimits) (start : Start) (front back : List Call) → NoneEnds front
    → (span limits start (front ++ set_status ok ∷ back)).status ≡ ok
unfolding span
ok-is-final limits start front back none =
    ap final_status (made-at status_of front back (set_status ok) none refl)
    ∙ ok-final (filter_map status_of front) (filter_map status_of (live_calls back))

-- A span whose status was never set to Ok has the last Error as its status.
pub last-error : (limits : SpanLimits) (start : Start) (front back : List Call) (message : List ℕ)
    → NoneEnds front → All (λ c. c ≢ set_status ok) front → All SetsNoStatus (live_calls back) →
    (span limits start (front ++ set_status (error message) ∷ back)).status ≡ error message
unfolding span
last-error limits start front back message none h k =
    ap final_status (made-at status_of front back (set_status (error message)) none refl)
    ∙ error-last (filter_map status_of front) (filter_map status_of (live_calls back)) message
    (no-ok front (recursion_from_All (λ c. c ≢ set_status ok) front h))
    (unset-statuses (live_calls back) (recursion_from_All SetsNoStatus (live_calls back) k))

-- A span whose status was set to Unset alone, or never, has the status Unset.
pub status-unset : (limits : SpanLimits) (start : Start) (calls : List Call)
    → All SetsNoStatus (live_calls calls) → (span limits start calls).status ≡ unset
unfolding span
status-unset limits start calls h =
    let all =
    unset-statuses (live_calls calls) (recursion_from_All SetsNoStatus (live_calls calls) h) in
    ap₂ status_by (none-ok (filter_map status_of (live_calls calls)) all)
    (none-error (filter_map status_of (live_calls calls)) all)

-- ---- Unset

-- A result of the calls that count is the same without one in the middle, if this holds of any
-- calls.
skips : {A : Type 0} (c : Call) → is_end c ≡ false → (front back : List Call) (made : List Call → A)
    → ((before later : List Call) → made (before ++ c ∷ later) ≡ made (before ++ later))
    → made (live_calls (front ++ c ∷ back)) ≡ made (live_calls (front ++ back))
skips c e [] back made h =
    ap made (live-cons c back ∙ ap (λ t. cond (not t) (c ∷ live_calls back) []) e)
    ∙ h [] (live_calls back)
skips c e (d ∷ front) back made h =
    ap made (live-cons d (front ++ c ∷ back))
    ∙ go (is_end d)
    (skips c e front back (λ l. made (d ∷ l)) (λ before later. h (d ∷ before) later))
    ∙ ap made (sym (live-cons d (front ++ back)))
  where
    go : (t : Bool)
        → made (d ∷ live_calls (front ++ c ∷ back)) ≡ made (d ∷ live_calls (front ++ back))
        → made (cond (not t) (d ∷ live_calls (front ++ c ∷ back)) [])
        ≡ made (cond (not t) (d ∷ live_calls (front ++ back)) [])
    go true ih = refl
    go false ih = ih

made-without : {A : Type 0} (h : Call → Option A) (before later : List Call) (c : Call) → h c ≡ None
    → filter_map h (before ++ c ∷ later) ≡ filter_map h (before ++ later)
made-without h before later c n =
    filter_map-append h before (c ∷ later)
    ∙ ap (λ o. filter_map h before ++ cons_option o (filter_map h later)) n
    ∙ sym (filter_map-append h before later)

status-without : (before later : List Call)
    → final_status (filter_map status_of (before ++ set_status unset ∷ later))
    ≡ final_status (filter_map status_of (before ++ later))
status-without before later =
    ap final_status (filter_map-append status_of before (set_status unset ∷ later))
    ∙ unset-ignored (filter_map status_of before) (filter_map status_of later)
    ∙ ap final_status (sym (filter_map-append status_of before later))

-- the span of the calls that count, and of its end
span_of : SpanLimits → Start → ℕ → List Call → Span
span_of limits start at counts = record {
  context = start.context;
  parent = start.parent;
  name = last_or start.name (filter_map name_of counts);
  kind = start.kind;
  start = start.at;
  end = at;
  attributes =
      attributes (record { count = limits.attributes; length = limits.value_length })
      (filter_map attribute_of counts);
  events = first_kept limits.events (filter_map (event_of limits) counts);
  links = first_kept limits.links (filter_map (link_of limits) counts);
  status = final_status (filter_map status_of counts);
}

span-is : (limits : SpanLimits) (start : Start) (calls : List Call)
    → span limits start calls
    ≡ span_of limits start (first_or start.at (filter_map end_of calls)) (live_calls calls)
unfolding span span_of
span-is limits start calls = refl

span-without : (limits : SpanLimits) (start : Start) (at : ℕ) (before later : List Call)
    → span_of limits start at (before ++ set_status unset ∷ later)
    ≡ span_of limits start at (before ++ later)
unfolding span_of
span-without limits start at before later =
    let name = made-without name_of before later (set_status unset) refl in
    let pairs = made-without attribute_of before later (set_status unset) refl in
    let events = made-without (event_of limits) before later (set_status unset) refl in
    let links = made-without (link_of limits) before later (set_status unset) refl in
    let status = status-without before later in
    λ i. record {
      context = start.context;
      parent = start.parent;
      name = last_or start.name (name i);
      kind = start.kind;
      start = start.at;
      end = at;
      attributes =
          attributes (record { count = limits.attributes; length = limits.value_length }) (pairs i);
      events = first_kept limits.events (events i);
      links = first_kept limits.links (links i);
      status = status i;
    }

-- A call that sets the status Unset changes nothing.
pub unset-is-ignored : (limits : SpanLimits) (start : Start) (front back : List Call)
    → span limits start (front ++ set_status unset ∷ back) ≡ span limits start (front ++ back)
unset-is-ignored limits start front back =
    let at : ℕ = first_or start.at (filter_map end_of (front ++ back)) in
    span-is limits start (front ++ set_status unset ∷ back)
    ∙ ap (λ ends.
    span_of limits start (first_or start.at ends) (live_calls (front ++ set_status unset ∷ back)))
    (made-without end_of front back (set_status unset) refl)
    ∙ skips (set_status unset) refl front back (span_of limits start at)
    (span-without limits start at)
    ∙ sym (span-is limits start (front ++ back))

-- ---- the end

no-ends : (calls : List Call) → AllByRecursion (λ c. (at : ℕ) → c ≢ end at) calls
    → filter_map end_of calls ≡ []
no-ends calls h = made-none end_of (λ c. (at : ℕ) → c ≢ end at) none calls h
  where
    none : (c : Call) → ((at : ℕ) → c ≢ end at) → end_of c ≡ None
    none (set_attribute p) k = refl
    none (add_event name at pairs) k = refl
    none (record_exception kind message stack at pairs) k = refl
    none (add_link context pairs) k = refl
    none (set_status s) k = refl
    none (update_name name) k = refl
    none (end at) k = absurd (k at refl)

first-only : (d : ℕ) (xs : List ℕ) (y : ℕ) (ys : List ℕ)
    → first_or d (xs ++ y ∷ ys) ≡ first_or d (xs ++ y ∷ [])
first-only d [] y ys = refl
first-only d (x ∷ xs) y ys = refl

same-end : (start : Start) (calls more : List Call) (at : ℕ)
    → first_or start.at (filter_map end_of (calls ++ end at ∷ more))
    ≡ first_or start.at (filter_map end_of (calls ++ end at ∷ []))
same-end start calls more at =
    ap (first_or start.at) (filter_map-append end_of calls (end at ∷ more))
    ∙ first-only start.at (filter_map end_of calls) at (filter_map end_of more)
    ∙ ap (first_or start.at) (sym (filter_map-append end_of calls (end at ∷ [])))

-- Calls after an end change nothing.
pub after-the-end : (limits : SpanLimits) (start : Start) (calls more : List Call) (at : ℕ)
    → span limits start (calls ++ end at ∷ more) ≡ span limits start (calls ++ end at ∷ [])
after-the-end limits start calls more at =
    span-is limits start (calls ++ end at ∷ more)
    ∙ ap₂ (span_of limits start) (same-end start calls more at)
    (live-end calls more at ∙ sym (live-end calls [] at))
    ∙ sym (span-is limits start (calls ++ end at ∷ []))

-- The first end is the span's end.
pub first-end : (limits : SpanLimits) (start : Start) (calls more : List Call) (at : ℕ)
    → NoneEnds calls → (span limits start (calls ++ end at ∷ more)).end ≡ at
unfolding span
first-end limits start calls more at none =
    ap (first_or start.at)
    (filter_map-append end_of calls (end at ∷ more)
    ∙ ap (λ l. l ++ at ∷ filter_map end_of more)
    (no-ends calls (recursion_from_All (λ c. (at : ℕ) → c ≢ end at) calls none)))
