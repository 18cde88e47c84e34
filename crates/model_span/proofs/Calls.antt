-- One more call on a span.
use Rattle.std.proofs.Common.{◌≡◌, refl, sym, ap, ap₂, subst, ◌∙◌, ℕ, ◌+◌, ◌<◌, ◌≤◌, List, [], ◌∷◌}
use Rattle.std.proofs.Common.{◌++◌, length, ◌-◌, arith, Bool, true, false, not, cond, ◌||◌, Option}
use Rattle.std.proofs.Common.{Some, None}
use Rattle.std.specs.List.{filter, filter_map, list_any}
use Rattle.std.proofs.Math.Seq.{take-nil}
use Rattle.std.proofs.lemmas.List.{append-nil, length-append, length-take, take_all, take-append-le}
use Rattle.std.proofs.lemmas.List.Elements.{filter-append, filter_map-append}
use Rattle.std.proofs.lemmas.Bool.{true≢false, false≢true}
use Rattle.std.proofs.lemmas.List.Folds.{list_any-append}
use Rattle.std.proofs.lemmas.List.Sums.{take_while-cons}
use Rattle.model_span.specs.Attributes.{Attribute, Kept, attributes, capped_count, last_or}
use Rattle.model_span.proofs.Lists.{last-more}
use Rattle.model_span.specs.Spans.{Call, set_attribute, end, SpanLimits, Context, Status, unset, ok}
use Rattle.model_span.specs.Spans.{error, Start, Event, Link, Span, SpanRecord, Records, Adds, Ends}
use Rattle.model_span.specs.Spans.{is_end, live_calls, end_of, attribute_of, event_of, link_of}
use Rattle.model_span.specs.Spans.{name_of, status_of, first_kept, final_status, is_ignored, link}
use Rattle.model_span.specs.Spans.{is_ok_status, is_error, span}

-- the calls of which none is an end
abbrev NoneEnds : List Call → Type 0
NoneEnds [] = Unit {0}
NoneEnds (c ∷ calls) = (is_end c ≡ false) × NoneEnds calls

live-cons : (c : Call) (calls : List Call)
    → live_calls (c ∷ calls) ≡ cond (not (is_end c)) (c ∷ live_calls calls) []
live-cons c calls = take_while-cons (λ c. not (is_end c)) c calls

none-ends-by : (c : Call) (calls : List Call) (b : Bool) → is_end c ≡ b
    → cond (not b) (c ∷ live_calls calls) [] ≡ c ∷ calls
    → (is_end c ≡ false) × (live_calls calls ≡ calls)
none-ends-by c calls true e k = cc
none-ends-by c calls false e k = (e, cc)

none-ends : (calls : List Call) → live_calls calls ≡ calls → NoneEnds calls
none-ends [] h = tt
none-ends (c ∷ calls) h =
    let k = none-ends-by c calls (is_end c) refl (sym (live-cons c calls) ∙ h) in
    (k.0, none-ends calls k.1)

-- More calls after calls of which none is an end count up to their own first end.
live-append : (calls more : List Call) → NoneEnds calls
    → live_calls (calls ++ more) ≡ calls ++ live_calls more
live-append [] more h = refl
live-append (c ∷ calls) more h =
    live-cons c (calls ++ more) ∙ rw h.0 (ap (λ l. c ∷ l) (live-append calls more h.1))

-- Calls of which none is an end give no time of an end.
no-end : (calls : List Call) → NoneEnds calls → filter_map end_of calls ≡ []
no-end [] h = refl
no-end (set_attribute p ∷ calls) h = no-end calls h.1
no-end (Call.add_event n a p ∷ calls) h = no-end calls h.1
no-end (Call.record_exception k m s a p ∷ calls) h = no-end calls h.1
no-end (Call.add_link c p ∷ calls) h = no-end calls h.1
no-end (Call.set_status s ∷ calls) h = no-end calls h.1
no-end (Call.update_name n ∷ calls) h = no-end calls h.1
no-end (end at ∷ calls) h = absurd (let k = h.0 in cc)

-- A call that gives nothing of a kind adds nothing of that kind.
gives-nothing : {B : Type 0} (f : Call → Option B) (calls : List Call) (c : Call) → f c ≡ None
    → filter_map f (calls ++ c ∷ []) ≡ filter_map f calls
gives-nothing f calls c e =
    filter_map-append f calls (c ∷ []) ∙ rw e (append-nil (filter_map f calls))

gives-one : {B : Type 0} (f : Call → Option B) (calls : List Call) (c : Call) (x : B) → f c ≡ Some x
    → filter_map f (calls ++ c ∷ []) ≡ filter_map f calls ++ x ∷ []
gives-one f calls c x e = filter_map-append f calls (c ∷ []) ∙ rw e refl

-- the attributes that the calls set
abbrev pub attributes_set : SpanLimits → List Call → Kept Attribute
attributes_set limits calls =
    attributes (record { count = limits.attributes; length = limits.value_length })
    (filter_map attribute_of calls)

-- One more attribute that is set changes the attributes of the span and nothing else.
pub span-attribute : (limits : SpanLimits) (start : Start) (calls : List Call) (p : Attribute)
    → live_calls calls ≡ calls →
    span limits start (calls ++ set_attribute p ∷ [])
    ≡ record (span limits start calls)
    { attributes = attributes_set limits (calls ++ set_attribute p ∷ []) }
unfolding span
span-attribute limits start calls p h =
    let c : Call = set_attribute p in
    rw (
      live-append calls (c ∷ []) (none-ends calls h),
      live-cons c [],
      h,
      gives-nothing name_of calls c refl,
      gives-nothing end_of calls c refl,
      gives-nothing (event_of limits) calls c refl,
      gives-nothing (link_of limits) calls c refl,
      gives-nothing status_of calls c refl,
    ) refl

-- A call that ends the span changes its end and nothing else.
pub span-ended : (limits : SpanLimits) (start : Start) (calls : List Call) (at : ℕ)
    → live_calls calls ≡ calls →
    span limits start (calls ++ end at ∷ []) ≡ record (span limits start calls) { end = at }
unfolding span
span-ended limits start calls at h =
    let c : Call = end at in
    rw (
      live-append calls (c ∷ []) (none-ends calls h),
      live-cons c [],
      append-nil calls,
      h,
      gives-one end_of calls c at refl,
      no-end calls (none-ends calls h),
    ) refl

-- A record whose attributes are those of one more pair has one more call.
pub adds-attribute : (old : SpanRecord) (p : Attribute) (kept : Kept Attribute) →
    ((pairs : List Attribute)
    → old.span.attributes
    ≡ attributes (record { count = old.limits.attributes; length = old.limits.value_length }) pairs
    → kept
    ≡ attributes (record { count = old.limits.attributes; length = old.limits.value_length })
    (pairs ++ p ∷ [])) →
    Adds (set_attribute p) old (record old { span = record old.span { attributes = kept } })
unfolding span
adds-attribute old p kept sets = record {
  place = record { limits = refl; resource = refl; scope = refl };
  value = λ start calls r. added start calls r;
}
  where
    added : (start : Start) (calls : List Call) → Records old start calls
        → Records (record old { span = record old.span { attributes = kept } }) start
        (calls ++ set_attribute p ∷ [])
    added start calls r =
        let c : Call = set_attribute p in
        let l : live_calls calls ≡ calls = r.none_ends in
        let before : old.span.attributes ≡ attributes_set old.limits calls =
        ap (λ (s : Span). s.attributes) r.is ∙ ap (λ cs. attributes_set old.limits cs) l in
        let one : filter_map attribute_of (calls ++ c ∷ [])
        ≡ filter_map attribute_of calls ++ p ∷ [] =
        gives-one attribute_of calls c p refl in
        let after : kept ≡ attributes_set old.limits (calls ++ c ∷ []) =
        rw one (sets (filter_map attribute_of calls) before) in
        let with : Span → Kept Attribute → Span = λ s k. record s { attributes = k } in
        record {
          none_ends =
              live-append calls (c ∷ []) (none-ends calls l)
              ∙ ap (λ cs. calls ++ cs) (live-cons c []);
          is =
              ap (λ (s : Span). with s kept) r.is
              ∙ ap (λ k. with (span old.limits start calls) k) after
              ∙ sym (span-attribute old.limits start calls p l);
        }

-- A record whose end is set has ended.
pub ends-at : (old : SpanRecord) (at : ℕ)
    → Ends at old
    (record {
      resource = old.resource;
      scope = old.scope;
      span = record old.span { end = at };
      ticket = 0;
    })
ends-at old at = record {
  resource = refl;
  scope = refl;
  ticket = refl;
  value =
      λ start calls r. let ended : Span → Span = λ s. record s { end = at } in
      ap ended r.is ∙ sym (span-ended old.limits start calls at r.none_ends);
}

-- The calls after the first end count for nothing.
pub span-after : (limits : SpanLimits) (start : Start) (calls more : List Call) (at : ℕ)
    → live_calls calls ≡ calls →
    span limits start (calls ++ end at ∷ more) ≡ span limits start (calls ++ end at ∷ [])
unfolding span
span-after limits start calls more at h =
    let n : NoneEnds calls = none-ends calls h in
    let none : (rest : List Call) → live_calls (end at ∷ rest) ≡ [] =
    λ rest. live-cons (end at) rest in
    let same : live_calls (calls ++ end at ∷ more) ≡ live_calls (calls ++ end at ∷ []) =
    rw (live-append calls (end at ∷ more) n, live-append calls (end at ∷ []) n, none more, none [])
    refl in
    let one : (rest : List Call)
    → filter_map end_of (calls ++ end at ∷ rest) ≡ at ∷ filter_map end_of rest =
    λ rest. filter_map-append end_of calls (end at ∷ rest) ∙ rw (no-end calls n) refl in
    rw (same, one more, one []) refl

-- A span that did not end has its start as its end.
pub span-unended : (limits : SpanLimits) (start : Start) (calls : List Call)
    → live_calls calls ≡ calls →
    record (span limits start calls) { end = start.at } ≡ span limits start calls
unfolding span
span-unended limits start calls h = rw (no-end calls (none-ends calls h)) refl

-- ---- one more call of any kind

-- whether the status is Unset
abbrev pub is_unset : Status → Bool
is_unset unset = true
is_unset ok = false
is_unset (error t) = false

-- what the call gives, as a list
abbrev given : {B : Type 0} → Option B → List B
given None = []
given (Some x) = x ∷ []

given-more : {B : Type 0} (f : Call → Option B) (calls : List Call) (c : Call)
    → filter_map f (calls ++ c ∷ []) ≡ filter_map f calls ++ given (f c)
given-more f calls c =
    filter_map-append f calls (c ∷ []) ∙ ap (λ l. filter_map f calls ++ l) (one (f c) refl)
  where
    one : (o : Option _) → f c ≡ o → filter_map f (c ∷ []) ≡ given o
    one None e = rw e refl
    one (Some x) e = rw e refl

live-more : (calls : List Call) (c : Call) → live_calls calls ≡ calls → is_end c ≡ false
    → live_calls (calls ++ c ∷ []) ≡ calls ++ c ∷ []
live-more calls c h e =
    live-append calls (c ∷ []) (none-ends calls h)
    ∙ ap (λ cs. calls ++ cs) (live-cons c [] ∙ rw e refl)

-- A call that is no end adds what it gives to each part of the span.
span-more : (limits : SpanLimits) (start : Start) (calls : List Call) (c : Call)
    → live_calls calls ≡ calls → is_end c ≡ false → end_of c ≡ None →
    span limits start (calls ++ c ∷ []) ≡ record (span limits start calls) {
      name = last_or start.name (filter_map name_of calls ++ given (name_of c));
      attributes =
          attributes (record { count = limits.attributes; length = limits.value_length })
          (filter_map attribute_of calls ++ given (attribute_of c));
      events =
          first_kept limits.events
          (filter_map (event_of limits) calls ++ given (event_of limits c));
      links =
          first_kept limits.links (filter_map (link_of limits) calls ++ given (link_of limits c));
      status = final_status (filter_map status_of calls ++ given (status_of c));
    }
unfolding span
span-more limits start calls c h e none =
    rw (
      live-more calls c h e,
      gives-nothing end_of calls c none,
      given-more name_of calls c,
      given-more attribute_of calls c,
      given-more (event_of limits) calls c,
      given-more (link_of limits) calls c,
      given-more status_of calls c,
    ) refl

-- A record whose span is that of one more call has one more call.
adds : (old : SpanRecord) (c : Call) (s : Span) → is_end c ≡ false
    → ((start : Start) (calls : List Call) → live_calls calls ≡ calls
    → old.span ≡ span old.limits start calls → s ≡ span old.limits start (calls ++ c ∷ [])) →
    Adds c old (record old { span = s })
adds old c s e more = record {
  place = record { limits = refl; resource = refl; scope = refl };
  value = λ start calls r. record {
    none_ends = live-more calls c r.none_ends e;
    is = more start calls r.none_ends r.is;
  };
}

-- ---- events and links

-- Of no items none is kept.
pub first-none : {A : Type 0} (limit : ℕ)
    → first_kept {A = A} limit [] ≡ record { items = []; dropped = 0 }
first-none {A = A} limit =
    let kept : List A → ℕ → Kept A = λ items dropped. record { items = items; dropped = dropped } in
    let none : capped_count (0 - limit) ≡ 0 = omega arith in
    ap (λ items. kept items (capped_count (0 - limit))) (take-nil limit) ∙ ap (kept []) none

-- One more is kept where there is room.
first-kept : {A : Type 0} (limit : ℕ) (xs : List A) (x : A)
    → length (first_kept limit xs).items < limit →
    first_kept limit (xs ++ x ∷ [])
    ≡ record {
      items = (first_kept limit xs).items ++ x ∷ [];
      dropped = (first_kept limit xs).dropped;
    }
first-kept {A = A} limit xs x l =
    let kept : List A → ℕ → Kept A = λ items dropped. record { items = items; dropped = dropped } in
    let some = length-take limit xs in
    let more = length-append xs (x ∷ []) in
    let room : length xs < limit = omega arith in
    let count : capped_count (length (xs ++ x ∷ []) - limit) ≡ capped_count (length xs - limit) =
    omega arith in
    ap₂ kept
    (take_all limit (xs ++ x ∷ []) (omega arith)
    ∙ ap (λ items. items ++ x ∷ []) (sym (take_all limit xs (omega arith))))
    count

-- Where there is none it is counted.
first-counted : {A : Type 0} (limit : ℕ) (xs : List A) (x : A)
    → limit ≤ length (first_kept limit xs).items →
    first_kept limit (xs ++ x ∷ [])
    ≡ record {
      items = (first_kept limit xs).items;
      dropped = capped_count ((first_kept limit xs).dropped + 1);
    }
first-counted {A = A} limit xs x l =
    let kept : List A → ℕ → Kept A = λ items dropped. record { items = items; dropped = dropped } in
    let some = length-take limit xs in
    let more = length-append xs (x ∷ []) in
    let full : limit ≤ length xs = omega arith in
    let count : capped_count (length (xs ++ x ∷ []) - limit)
    ≡ capped_count (capped_count (length xs - limit) + 1) =
    omega arith in
    ap₂ kept (take-append-le limit xs (x ∷ []) full) count

-- one more, which is kept
abbrev pub one_kept : {A : Type 0} → Kept A → A → Kept A
one_kept k x = record { items = k.items ++ x ∷ []; dropped = k.dropped }

-- one more, which is not
abbrev pub one_counted : {A : Type 0} → Kept A → Kept A
one_counted k = record { items = k.items; dropped = capped_count (k.dropped + 1) }

-- The call is one that adds an event.
abbrev pub AddsEvent : Call → Type 0
AddsEvent (Call.set_attribute p) = ⊥
AddsEvent (Call.add_event n a p) = Unit {0}
AddsEvent (Call.record_exception k m s a p) = Unit {0}
AddsEvent (Call.add_link c p) = ⊥
AddsEvent (Call.set_status s) = ⊥
AddsEvent (Call.update_name n) = ⊥
AddsEvent (end at) = ⊥

span-event : (limits : SpanLimits) (start : Start) (calls : List Call) (c : Call) → AddsEvent c
    → live_calls calls ≡ calls →
    span limits start (calls ++ c ∷ [])
    ≡ record (span limits start calls) {
      events =
          first_kept limits.events
          (filter_map (event_of limits) calls ++ given (event_of limits c));
    }
unfolding span
span-event limits start calls (Call.add_event n a p) k h =
    span-more limits start calls (Call.add_event n a p) h refl refl
    ∙ rw (
      h,
      append-nil (filter_map name_of calls),
      append-nil (filter_map attribute_of calls),
      append-nil (filter_map (link_of limits) calls),
      append-nil (filter_map status_of calls),
    ) refl
span-event limits start calls (Call.record_exception t m b a p) k h =
    span-more limits start calls (Call.record_exception t m b a p) h refl refl
    ∙ rw (
      h,
      append-nil (filter_map name_of calls),
      append-nil (filter_map attribute_of calls),
      append-nil (filter_map (link_of limits) calls),
      append-nil (filter_map status_of calls),
    ) refl
span-event limits start calls (Call.set_attribute p) k h = absurd k
span-event limits start calls (Call.add_link c p) k h = absurd k
span-event limits start calls (Call.set_status s) k h = absurd k
span-event limits start calls (Call.update_name n) k h = absurd k
span-event limits start calls (end at) k h = absurd k

event-ends-not : (c : Call) → AddsEvent c → is_end c ≡ false
event-ends-not (Call.add_event n a p) k = refl
event-ends-not (Call.record_exception t m b a p) k = refl
event-ends-not (Call.set_attribute p) k = absurd k
event-ends-not (Call.add_link c p) k = absurd k
event-ends-not (Call.set_status s) k = absurd k
event-ends-not (Call.update_name n) k = absurd k
event-ends-not (end at) k = absurd k

-- A record whose events are those with one more has one more call.
adds-event-by : (old : SpanRecord) (c : Call) (e : Event) (kept : Kept Event) → AddsEvent c
    → event_of old.limits c ≡ Some e →
    ((events : List Event) → old.span.events ≡ first_kept old.limits.events events
    → kept ≡ first_kept old.limits.events (events ++ e ∷ [])) →
    Adds c old (record old { span = record old.span { events = kept } })
unfolding span
adds-event-by old c e kept k i more =
    adds old c (record old.span { events = kept }) (event-ends-not c k) go
  where
    with : Span → Kept Event → Span
    with s k = record s { events = k }

    go : (start : Start) (calls : List Call) → live_calls calls ≡ calls
        → old.span ≡ span old.limits start calls
        → with old.span kept ≡ span old.limits start (calls ++ c ∷ [])
    go start calls h is =
        let before : old.span.events
        ≡ first_kept old.limits.events (filter_map (event_of old.limits) calls) =
        ap (λ (s : Span). s.events) is
        ∙ ap (λ cs. first_kept old.limits.events (filter_map (event_of old.limits) cs)) h in
        ap (λ s. with s kept) is
        ∙ ap (with (span old.limits start calls))
        (more (filter_map (event_of old.limits) calls) before)
        ∙ ap (λ o. with (span old.limits start calls)
        (first_kept old.limits.events (filter_map (event_of old.limits) calls ++ given o)))
        (sym i)
        ∙ sym (span-event old.limits start calls c k h)

-- An event for which there is room is kept.
pub adds-event : (old : SpanRecord) (c : Call) (e : Event) → AddsEvent c
    → event_of old.limits c ≡ Some e → length old.span.events.items < old.limits.events →
    Adds c old (record old { span = record old.span { events = one_kept old.span.events e } })
adds-event old c e k i l = adds-event-by old c e (one_kept old.span.events e) k i (λ events is.
    let room : length (first_kept old.limits.events events).items < old.limits.events =
    subst (λ (kept : Kept Event). length kept.items < old.limits.events) is l in
    ap (λ kept. one_kept kept e) is ∙ sym (first-kept old.limits.events events e room))

-- An event beyond the limit is only counted.
pub adds-counted-event : (old : SpanRecord) (c : Call) (e : Event) → AddsEvent c
    → event_of old.limits c ≡ Some e → old.limits.events ≤ length old.span.events.items →
    Adds c old (record old { span = record old.span { events = one_counted old.span.events } })
adds-counted-event old c e k i l =
    adds-event-by old c e (one_counted old.span.events) k i (λ events is.
    let full : old.limits.events ≤ length (first_kept old.limits.events events).items =
    subst (λ (kept : Kept Event). old.limits.events ≤ length kept.items) is l in
    ap one_counted is ∙ sym (first-counted old.limits.events events e full))

-- ---- links

span-link : (limits : SpanLimits) (start : Start) (calls : List Call) (to : Context)
    (pairs : List Attribute)
    → live_calls calls ≡ calls →
    span limits start (calls ++ Call.add_link to pairs ∷ [])
    ≡ record (span limits start calls) {
      links =
          first_kept limits.links
          (filter_map (link_of limits) calls ++ given (link_of limits (Call.add_link to pairs)));
    }
unfolding span
span-link limits start calls to pairs h =
    span-more limits start calls (Call.add_link to pairs) h refl refl
    ∙ rw (
      h,
      append-nil (filter_map name_of calls),
      append-nil (filter_map attribute_of calls),
      append-nil (filter_map (event_of limits) calls),
      append-nil (filter_map status_of calls),
    ) refl

adds-link-by : (old : SpanRecord) (to : Context) (pairs : List Attribute) (kept : Kept Link) →
    ((links : List Link) → old.span.links ≡ first_kept old.limits.links links
    → kept
    ≡ first_kept old.limits.links (links ++ given (link_of old.limits (Call.add_link to pairs)))) →
    Adds (Call.add_link to pairs) old (record old { span = record old.span { links = kept } })
unfolding span
adds-link-by old to pairs kept more =
    adds old (Call.add_link to pairs) (record old.span { links = kept }) refl go
  where
    with : Span → Kept Link → Span
    with s k = record s { links = k }

    go : (start : Start) (calls : List Call) → live_calls calls ≡ calls
        → old.span ≡ span old.limits start calls
        → with old.span kept ≡ span old.limits start (calls ++ Call.add_link to pairs ∷ [])
    go start calls h is =
        let before : old.span.links
        ≡ first_kept old.limits.links (filter_map (link_of old.limits) calls) =
        ap (λ (s : Span). s.links) is
        ∙ ap (λ cs. first_kept old.limits.links (filter_map (link_of old.limits) cs)) h in
        ap (λ s. with s kept) is
        ∙ ap (with (span old.limits start calls))
        (more (filter_map (link_of old.limits) calls) before)
        ∙ sym (span-link old.limits start calls to pairs h)

link-given : (limits : SpanLimits) (to : Context) (pairs : List Attribute)
    → is_ignored to pairs ≡ false
    → given (link_of limits (Call.add_link to pairs)) ≡ link limits to pairs ∷ []
link-given limits to pairs i = ap (λ t. given (cond t None (Some (link limits to pairs)))) i

-- A link for which there is room is kept.
pub adds-link : (old : SpanRecord) (to : Context) (pairs : List Attribute)
    → is_ignored to pairs ≡ false → length old.span.links.items < old.limits.links →
    Adds (Call.add_link to pairs) old
    (record old {
      span = record old.span { links = one_kept old.span.links (link old.limits to pairs) };
    })
adds-link old to pairs i l =
    adds-link-by old to pairs (one_kept old.span.links (link old.limits to pairs)) (λ links is.
    let room : length (first_kept old.limits.links links).items < old.limits.links =
    subst (λ (kept : Kept Link). length kept.items < old.limits.links) is l in
    ap (λ kept. one_kept kept (link old.limits to pairs)) is
    ∙ sym (first-kept old.limits.links links (link old.limits to pairs) room)
    ∙ ap (λ more. first_kept old.limits.links (links ++ more))
    (sym (link-given old.limits to pairs i)))

-- A link beyond the limit is only counted.
pub adds-counted-link : (old : SpanRecord) (to : Context) (pairs : List Attribute)
    → is_ignored to pairs ≡ false → old.limits.links ≤ length old.span.links.items →
    Adds (Call.add_link to pairs) old
    (record old { span = record old.span { links = one_counted old.span.links } })
adds-counted-link old to pairs i l =
    adds-link-by old to pairs (one_counted old.span.links) (λ links is.
    let full : old.limits.links ≤ length (first_kept old.limits.links links).items =
    subst (λ (kept : Kept Link). old.limits.links ≤ length kept.items) is l in
    ap one_counted is ∙ sym (first-counted old.limits.links links (link old.limits to pairs) full)
    ∙ ap (λ more. first_kept old.limits.links (links ++ more))
    (sym (link-given old.limits to pairs i)))

-- A link that says nothing changes nothing.
pub adds-ignored-link : (old : SpanRecord) (to : Context) (pairs : List Attribute)
    → is_ignored to pairs ≡ true → Adds (Call.add_link to pairs) old old
adds-ignored-link old to pairs i = adds-link-by old to pairs old.span.links (λ links is.
    is ∙ ap (first_kept old.limits.links) (sym (append-nil links))
    ∙ ap (λ t.
    first_kept old.limits.links (links ++ given (cond t None (Some (link old.limits to pairs)))))
    (sym i))

-- ---- status and name

or-false : (a : Bool) → (a || false) ≡ a
or-false true = refl
or-false false = refl

or-true : (a : Bool) → (a || true) ≡ true
or-true true = refl
or-true false = refl

-- the status that a list of statuses makes, by whether Ok is among them and by the errors
abbrev status_by : Bool → List Status → Status
status_by has errors = cond has ok (last_or unset errors)

-- The last of some errors is not Ok.
error-not-ok : (d : Status) (set : List Status) → is_ok_status d ≡ false
    → is_ok_status (last_or d (filter is_error set)) ≡ false
error-not-ok d [] h = h
error-not-ok d (unset ∷ set) h = error-not-ok d set h
error-not-ok d (ok ∷ set) h = error-not-ok d set h
error-not-ok d (error t ∷ set) h = error-not-ok (error t) set refl

-- The status is Ok just where Ok is among those that were set.
final-is-ok : (set : List Status) → is_ok_status (final_status set) ≡ list_any is_ok_status set
final-is-ok set = go (list_any is_ok_status set)
  where
    go : (has : Bool) → is_ok_status (status_by has (filter is_error set)) ≡ has
    go true = refl
    go false = error-not-ok unset set refl

final-unset : (set : List Status) → final_status (set ++ unset ∷ []) ≡ final_status set
final-unset set =
    ap₂ status_by
    (list_any-append is_ok_status set (unset ∷ []) ∙ or-false (list_any is_ok_status set))
    (filter-append is_error set (unset ∷ []) ∙ append-nil (filter is_error set))

final-after-ok : (set : List Status) (s : Status) → is_ok_status (final_status set) ≡ true
    → final_status (set ++ s ∷ []) ≡ final_status set
final-after-ok set s h =
    let has : list_any is_ok_status set ≡ true = sym (final-is-ok set) ∙ h in
    let more : list_any is_ok_status (set ++ s ∷ []) ≡ true =
    list_any-append is_ok_status set (s ∷ []) ∙ ap (λ a. a || list_any is_ok_status (s ∷ [])) has in
    ap (λ t. status_by t (filter is_error (set ++ s ∷ []))) more
    ∙ ap (λ t. status_by t (filter is_error set)) (sym has)

final-set : (set : List Status) (s : Status) → is_ok_status (final_status set) ≡ false
    → is_unset s ≡ false → final_status (set ++ s ∷ []) ≡ s
final-set set unset h n = absurd (true≢false n)
final-set set ok h n =
    ap (λ t. status_by t (filter is_error (set ++ ok ∷ [])))
    (list_any-append is_ok_status set (ok ∷ []) ∙ or-true (list_any is_ok_status set))
final-set set (error t) h n =
    ap₂ status_by
    (list_any-append is_ok_status set (error t ∷ []) ∙ or-false (list_any is_ok_status set)
    ∙ sym (final-is-ok set) ∙ h)
    (filter-append is_error set (error t ∷ []))
    ∙ last-more unset (filter is_error set) (error t)

span-status : (limits : SpanLimits) (start : Start) (calls : List Call) (s : Status)
    → live_calls calls ≡ calls →
    span limits start (calls ++ Call.set_status s ∷ [])
    ≡ record (span limits start calls)
    { status = final_status (filter_map status_of calls ++ s ∷ []) }
unfolding span
span-status limits start calls s h =
    span-more limits start calls (Call.set_status s) h refl refl
    ∙ rw (
      h,
      append-nil (filter_map name_of calls),
      append-nil (filter_map attribute_of calls),
      append-nil (filter_map (event_of limits) calls),
      append-nil (filter_map (link_of limits) calls),
    ) refl

adds-status-by : (old : SpanRecord) (s new : Status)
    → ((set : List Status) → old.span.status ≡ final_status set
    → new ≡ final_status (set ++ s ∷ [])) →
    Adds (Call.set_status s) old (record old { span = record old.span { status = new } })
unfolding span
adds-status-by old s new more =
    adds old (Call.set_status s) (record old.span { status = new }) refl go
  where
    with : Span → Status → Span
    with s k = record s { status = k }

    go : (start : Start) (calls : List Call) → live_calls calls ≡ calls
        → old.span ≡ span old.limits start calls
        → with old.span new ≡ span old.limits start (calls ++ Call.set_status s ∷ [])
    go start calls h is =
        let before : old.span.status ≡ final_status (filter_map status_of calls) =
        ap (λ (s : Span). s.status) is ∙ ap (λ cs. final_status (filter_map status_of cs)) h in
        ap (λ s. with s new) is
        ∙ ap (with (span old.limits start calls)) (more (filter_map status_of calls) before)
        ∙ sym (span-status old.limits start calls s h)

-- A status that counts replaces the status of the span.
pub adds-status : (old : SpanRecord) (s : Status) → is_ok_status old.span.status ≡ false
    → is_unset s ≡ false →
    Adds (Call.set_status s) old (record old { span = record old.span { status = s } })
adds-status old s h n =
    adds-status-by old s s (λ set is. sym (final-set set s (sym (ap is_ok_status is) ∙ h) n))

-- A status after Ok changes nothing.
pub adds-status-after-ok : (old : SpanRecord) (s : Status) → is_ok_status old.span.status ≡ true
    → Adds (Call.set_status s) old old
adds-status-after-ok old s h =
    adds-status-by old s old.span.status
    (λ set is. is ∙ sym (final-after-ok set s (sym (ap is_ok_status is) ∙ h)))

-- The status Unset changes nothing.
pub adds-unset : (old : SpanRecord) (s : Status) → is_unset s ≡ true
    → Adds (Call.set_status s) old old
adds-unset old unset n =
    adds-status-by old unset old.span.status (λ set is. is ∙ sym (final-unset set))
adds-unset old ok n = absurd (false≢true n)
adds-unset old (error t) n = absurd (false≢true n)

span-name : (limits : SpanLimits) (start : Start) (calls : List Call) (name : List ℕ)
    → live_calls calls ≡ calls →
    span limits start (calls ++ Call.update_name name ∷ [])
    ≡ record (span limits start calls) { name = name }
unfolding span
span-name limits start calls name h =
    span-more limits start calls (Call.update_name name) h refl refl
    ∙ rw (
      h,
      append-nil (filter_map attribute_of calls),
      append-nil (filter_map (event_of limits) calls),
      append-nil (filter_map (link_of limits) calls),
      append-nil (filter_map status_of calls),
      last-more start.name (filter_map name_of calls) name,
    ) refl

-- A new name replaces the name of the span.
pub adds-name : (old : SpanRecord) (name : List ℕ)
    → Adds (Call.update_name name) old (record old { span = record old.span { name = name } })
adds-name old name =
    adds old (Call.update_name name) (record old.span { name = name }) refl (λ start calls h is.
    let with : Span → Span = λ s. record s { name = name } in
    ap with is ∙ sym (span-name old.limits start calls name h))
