-- What a call makes of a body, and what a span's calls make of it when it ends.
use Rattle.std.proofs.Common.{◌≡◌, sym, ap, ap₂, subst, ◌∙◌, ℕ, suc, ◌+◌, ◌<◌, ◌≤◌, List, [], ◌∷◌}
use Rattle.std.proofs.Common.{◌++◌, map, take, drop, length, get_or, Result, Ok, Err, OnErr, OnOk}
use Rattle.std.proofs.Common.{add-one, arith, Bool, true, false, not, ◌&&◌, nat_eq, nat_lt, refl}
use Rattle.std.proofs.Common.{Some, String}
use Rattle.std.proofs.lemmas.Bool.{ltb-true, ltb-false}
use Rattle.std.proofs.lemmas.Bool.Decides.{nat_tests}
use Rattle.std.proofs.lemmas.List.{length-map, map-append, take-append-drop}
use Rattle.std.proofs.Math.Seq.{drop-cons, take-suc}
use Rattle.model_span.specs.Attributes.{Attribute, AttributeList, Kept, Limits, SetsPair}
use Rattle.model_span.specs.Attributes.{attribute_list, attributes, is_empty}
use Rattle.model_span.specs.Spans.{Call, SpanLimits, unset, attribute_limits, set_attribute}
use Rattle.model_span.specs.Spans.{add_link, end, Context, Event, event_of, Link, link, is_ignored}
use Rattle.model_span.specs.Spans.{is_valid, no_pairs, is_end, Start, Span, Resource, Scope}
use Rattle.model_span.specs.Spans.{SpanRecord, SpanData, KeepsPlace, Records, Adds, Ends, span}
use Rattle.model_span.proofs.Calls.{AddsEvent, adds-attribute, adds-event, adds-counted-event}
use Rattle.model_span.proofs.Calls.{adds-link, adds-counted-link, first-none, span-ended}
use Rattle.model_span.proofs.Calls.{span-after, span-unended}
use Rattle.otlp_value.specs.declared.Value.{Value}
use Rattle.otlp_value.specs.Value.{attributes_view}
use Rattle.otlp_span.specs.declared.body.SpanBody.{SpanBody}
use Rattle.otlp_span.specs.declared.parts.Event as parts
use Rattle.otlp_span.specs.declared.parts.Link as link_parts
use Rattle.otlp_span.specs.declared.parts.SpanCall.{SpanCall}
use Rattle.otlp_span.specs.declared.parts.SpanCall.TheVariants as calls
use Rattle.otlp_span.specs.Body.{IsLimited, kept_view, recording_view}
use Rattle.otlp_span.specs.Parts.{attributes_of, call_view, event_view, limits_view, link_view}
use Rattle.otlp_span.specs.Recording.{KeepsOneMore, one_counted, one_kept}

-- What holds in the case of an `Ok` may be weakened.
pub on-ok : {T E : Type 0} {P Q : Type 0} (r : Result T E) → (P → Q) → OnOk r P → OnOk r Q
on-ok (Ok x) f h = f h
on-ok (Err e) f h = tt

-- What holds in the case of an `Err` may be weakened.
pub on-err-then : {T E : Type 0} {P Q : Type 0} (r : Result T E) → (P → Q) → OnErr r P → OnErr r Q
on-err-then (Ok x) f h = tt
on-err-then (Err e) f h = f h

-- What holds anyway holds where there is an error.
pub on-err : {T E : Type 0} {P : Type 0} (r : Result T E) → P → OnErr r P
on-err (Ok x) h = tt
on-err (Err e) h = h

-- The span of a start without calls has the start's parts, no events or links, and the status
-- Unset.
pub span-none : (limits : SpanLimits) (start : Start) → span limits start [] ≡ record {
  context = start.context;
  parent = start.parent;
  name = start.name;
  kind = start.kind;
  start = start.at;
  end = start.at;
  attributes = attributes (attribute_limits limits) [];
  events = record { items = []; dropped = 0 };
  links = record { items = []; dropped = 0 };
  status = unset;
}
unfolding span
span-none limits start =
    rw (first-none {A = Event} limits.events, first-none {A = Link} limits.links) refl

-- A body with one more pair has one more call.
pub set-adds : {A : Type 0} (b : SpanBody A) (p : Attribute) (a : AttributeList) → IsLimited b
    → SetsPair p b.attributes a →
    Adds (set_attribute p) (recording_view b) (recording_view (record b { attributes = a }))
set-adds b p a h s =
    let Sets : Limits → Type 0 =
    λ l. (pairs : List Attribute) → b.attributes.kept ≡ attributes l pairs
    → a.kept ≡ attributes l (pairs ++ p ∷ []) in
    adds-attribute (recording_view b) p a.kept (subst Sets h s.value)

-- The list in which attributes are set has the limits of the span.
pub limited : {A : Type 0} (b : SpanBody A) → IsLimited b
    → b.attributes ≡ attributes_of (recording_view b)
limited b h =
    let list : Limits → AttributeList = λ l. record { limits = l; kept = b.attributes.kept } in
    ap list h

-- ---- an event or a link more

abbrev with_events : SpanRecord → Kept Event → SpanRecord
with_events r events = record r { span = record r.span { events = events } }

abbrev with_links : SpanRecord → Kept Link → SpanRecord
with_links r links = record r { span = record r.span { links = links } }

-- What is kept of the pairs is what the limits of the record keep.
pub kept-is : {list : AttributeList} {l : Limits} (pairs : List Attribute) (m : Limits)
    → list ≡ attribute_list l pairs → l ≡ m → list.kept ≡ attributes m pairs
kept-is pairs m is e = ap (λ (list : AttributeList). list.kept) is ∙ ap (λ l. attributes l pairs) e

-- One more item is one more item in the model.
view-one : {T M : Type 0} (view : T → M) (kept : Kept T) (x : T)
    → kept_view view (one_kept kept x) ≡ one_kept (kept_view view kept) (view x)
view-one view kept x =
    let with : List _ → Kept _ = λ items. record { items = items; dropped = kept.dropped } in
    ap with (map-append view kept.items (x ∷ []))

-- A link is ignored if the test of its pairs says so.
pub ignored-is : {A : Type 0} (to : Context) (xs ys : List (String A × Value A)) (b u : Bool)
    → xs ≡ ys → b ≡ is_ignored to (attributes_view xs) → b ≡ u
    → is_ignored to (attributes_view ys) ≡ u
ignored-is to xs ys b u p q r = ap (λ z. is_ignored to (attributes_view z)) (sym p) ∙ sym q ∙ r

-- There is room for one more event; the items and the limits are read one after the other.
abbrev pub event-room : {A : Type 0} → SpanBody A → SpanBody A → Bool
event-room b d = nat_lt (length b.events.items) d.limits.max_events_per_span

-- What the test said holds of the body that is then changed.
pub event-room-is : {A : Type 0} {x d e b : SpanBody A} {t u : Bool} → d ≡ x → e ≡ x → b ≡ x
    → t ≡ event-room d e → t ≡ u → event-room b b ≡ u
event-room-is p q r h k = ap₂ event-room (r ∙ sym p) (r ∙ sym q) ∙ sym h ∙ k

-- Where the test says that there is room, one more event is kept.
pub keeps-one-event : {A : Type 0} (b : SpanBody A) (r : SpanRecord) → event-room b b ≡ true
    → recording_view b ≡ r → KeepsOneMore r.limits.events r.span.events
keeps-one-event b r room is =
    let one : length (map event_view b.events.items) < b.limits.max_events_per_span =
    rw (length-map b.events.items event_view) (ltb-true _ _ room) in
    subst (λ (r : SpanRecord). KeepsOneMore r.limits.events r.span.events) is one

-- A call whose event was kept is added to the record.
pub keeps-event : {A : Type 0} (b : SpanBody A) (r : SpanRecord) (call : Call) (e : parts.Event A)
    (k : Kept (parts.Event A)) (is : Event)
    → recording_view b ≡ r → AddsEvent call → event_of (limits_view b.limits) call ≡ Some is
    → event-room b b ≡ true → event_view e ≡ is → k ≡ one_kept b.events e →
    Adds call r (recording_view (record b { events = k }))
keeps-event b r call e k is before adds gives room same more =
    let old = recording_view b in
    let with : Kept Event → SpanRecord = λ k. with_events old k in
    let view : Kept (parts.Event _) → Kept Event = λ k. kept_view event_view k in
    let what : view k ≡ one_kept old.span.events is =
    ap view more ∙ view-one event_view b.events e ∙ ap (one_kept old.span.events) same in
    subst (λ o. Adds call o (with (view k))) before
    (subst (λ k. Adds call old (with k)) (sym what)
    (adds-event old call is adds gives (keeps-one-event b old room refl)))

-- A call whose event or link was only counted is added to the record.
pub counts-event : {A : Type 0} (b : SpanBody A) (r : SpanRecord) (call : Call)
    (k : Kept (parts.Event A)) (is : Event)
    → recording_view b ≡ r → AddsEvent call → event_of (limits_view b.limits) call ≡ Some is
    → event-room b b ≡ false → k ≡ one_counted b.events →
    Adds call r (recording_view (record b { events = k }))
counts-event b r call k is before adds gives full more =
    let old = recording_view b in
    let with : Kept Event → SpanRecord = λ k. with_events old k in
    let view : Kept (parts.Event _) → Kept Event = λ k. kept_view event_view k in
    let no_room : old.limits.events ≤ length old.span.events.items =
    rw (length-map b.events.items event_view) (ltb-false _ _ full) in
    subst (λ o. Adds call o (with (view k))) before
    (subst (λ k. Adds call old (with k)) (sym (ap view more))
    (adds-counted-event old call is adds gives no_room))

-- A body with the same events has the same record.
pub same-events : {A : Type 0} (b : SpanBody A) (r : SpanRecord) (k : Kept (parts.Event A))
    → recording_view b ≡ r → k ≡ b.events → recording_view (record b { events = k }) ≡ r
same-events b r k before is =
    let with : Kept (parts.Event _) → SpanRecord = λ k. recording_view (record b { events = k }) in
    ap with is ∙ before

and-false : (b : Bool) → (b && false) ≡ false
and-false true = refl
and-false false = refl

-- There are no pairs if their number is 0.
pub no-pairs-length : {A : Type 0} (pairs : List (String A × Value A))
    → no_pairs (attributes_view pairs) ≡ nat_eq (length pairs) 0
no-pairs-length [] = refl
no-pairs-length (p ∷ pairs) = sym (more (length pairs))
  where
    more : (n : ℕ) → nat_eq (suc n) 0 ≡ false
    more n = grind (arith, nat_tests)

-- A link to a valid context counts, and so does one with pairs.
pub valid-counts : (to : Context) (pairs : List Attribute) → is_valid to ≡ true
    → is_ignored to pairs ≡ false
valid-counts to pairs h = ap (λ v. not v && (no_pairs pairs && is_empty to.state)) h

-- A link with pairs is not ignored.
pub pairs-count : (to : Context) (pairs : List Attribute) → no_pairs pairs ≡ false
    → is_ignored to pairs ≡ false
pairs-count to pairs h =
    ap (λ p. not (is_valid to) && (p && is_empty to.state)) h ∙ and-false (not (is_valid to))

-- There is room for one more link; the items and the limits are read one after the other.
abbrev pub link-room : {A : Type 0} → SpanBody A → SpanBody A → Bool
link-room b d = nat_lt (length b.links.items) d.limits.max_links_per_span

-- What the test of the links said holds of the body that is then changed.
pub link-room-is : {A : Type 0} {x d e b : SpanBody A} {t u : Bool} → d ≡ x → e ≡ x → b ≡ x
    → t ≡ link-room d e → t ≡ u → link-room b b ≡ u
link-room-is p q r h k = ap₂ link-room (r ∙ sym p) (r ∙ sym q) ∙ sym h ∙ k

-- Where the test says that there is room, one more link is kept.
pub keeps-one-link : {A : Type 0} (b : SpanBody A) (r : SpanRecord) → link-room b b ≡ true
    → recording_view b ≡ r → KeepsOneMore r.limits.links r.span.links
keeps-one-link b r room is =
    let one : length (map link_view b.links.items) < b.limits.max_links_per_span =
    rw (length-map b.links.items link_view) (ltb-true _ _ room) in
    subst (λ (r : SpanRecord). KeepsOneMore r.limits.links r.span.links) is one

-- A call whose link was kept is added to the record.
pub keeps-link : {A : Type 0} (b : SpanBody A) (r : SpanRecord) (to : Context)
    (pairs : List Attribute) (l : link_parts.Link A) (k : Kept (link_parts.Link A))
    → recording_view b ≡ r → is_ignored to pairs ≡ false → link-room b b ≡ true
    → link_view l ≡ link (limits_view b.limits) to pairs → k ≡ one_kept b.links l →
    Adds (add_link to pairs) r (recording_view (record b { links = k }))
keeps-link b r to pairs l k before says room same more =
    let old = recording_view b in
    let with : Kept Link → SpanRecord = λ k. with_links old k in
    let view : Kept (link_parts.Link _) → Kept Link = λ k. kept_view link_view k in
    let what : view k ≡ one_kept old.span.links (link old.limits to pairs) =
    ap view more ∙ view-one link_view b.links l ∙ ap (one_kept old.span.links) same in
    subst (λ o. Adds (add_link to pairs) o (with (view k))) before
    (subst (λ k. Adds (add_link to pairs) old (with k)) (sym what)
    (adds-link old to pairs says (keeps-one-link b old room refl)))

-- A call whose event or link was only counted is added to the record.
pub counts-link : {A : Type 0} (b : SpanBody A) (r : SpanRecord) (to : Context)
    (pairs : List Attribute) (k : Kept (link_parts.Link A))
    → recording_view b ≡ r → is_ignored to pairs ≡ false → link-room b b ≡ false
    → k ≡ one_counted b.links →
    Adds (add_link to pairs) r (recording_view (record b { links = k }))
counts-link b r to pairs k before says full more =
    let old = recording_view b in
    let with : Kept Link → SpanRecord = λ k. with_links old k in
    let view : Kept (link_parts.Link _) → Kept Link = λ k. kept_view link_view k in
    let no_room : old.limits.links ≤ length old.span.links.items =
    rw (length-map b.links.items link_view) (ltb-false _ _ full) in
    subst (λ o. Adds (add_link to pairs) o (with (view k))) before
    (subst (λ k. Adds (add_link to pairs) old (with k)) (sym (ap view more))
    (adds-counted-link old to pairs says no_room))

-- A body with the same links has the same record.
pub same-links : {A : Type 0} (b : SpanBody A) (r : SpanRecord) (k : Kept (link_parts.Link A))
    → recording_view b ≡ r → k ≡ b.links → recording_view (record b { links = k }) ≡ r
same-links b r k before is =
    let with : Kept (link_parts.Link _) → SpanRecord =
    λ k. recording_view (record b { links = k }) in
    ap with is ∙ before

-- ---- a run of calls

-- A record that stays at its place through two steps stays there through both.
pub stays : (first old new : SpanRecord) → KeepsPlace first old → KeepsPlace old new
    → KeepsPlace first new
stays first old new a b = record {
  limits = b.limits ∙ a.limits;
  resource = b.resource ∙ a.resource;
  scope = b.scope ∙ a.scope;
}

-- A call that isn't `End` is no end in the model.
pub no-end : {A : Type 0} (call : SpanCall A) → ((at : ℕ) → call ≡ calls.End at → ⊥)
    → is_end (call_view call) ≡ false
no-end (calls.SetAttribute key value) h = refl
no-end (calls.AddEvent name at pairs) h = refl
no-end (calls.RecordException kind message stack at pairs) h = refl
no-end (calls.AddLink to pairs) h = refl
no-end (calls.SetStatus status) h = refl
no-end (calls.UpdateName name) h = refl
no-end (calls.End at) h = absurd (h at refl)

-- The calls are those before an index, then the one there, and those after it.
pub from-index : {X : Type 0} (view : X → Call) (calls : List X) (i : ℕ) (x : X) → i < length calls
    → x ≡ get_or calls i x →
    map view calls ≡ map view (take i calls) ++ view x ∷ map view (drop (suc i) calls)
from-index view calls i x l e =
    ap (map view) (sym (take-append-drop i calls)) ∙ map-append view (take i calls) (drop i calls)
    ∙ ap (λ rest. map view (take i calls) ++ map view rest) (drop-cons calls i x l)
    ∙ ap (λ y. map view (take i calls) ++ view y ∷ map view (drop (suc i) calls)) (sym e)

-- The calls through an index are those before it, and then the one there.
pub through-index : {X : Type 0} (view : X → Call) (calls : List X) (i : ℕ) (x : X)
    → i < length calls → x ≡ get_or calls i x →
    map view (take (i + 1) calls) ≡ map view (take i calls) ++ view x ∷ []
through-index view calls i x l e =
    rw (add-one, take-suc calls i x l)
    (map-append view (take i calls) (get_or calls i x ∷ [])
    ∙ ap (λ y. map view (take i calls) ++ view y ∷ []) (sym e))

same-ended : (e : SpanData) (r : Resource) (s : Scope) (x : Span) → e.resource ≡ r → e.scope ≡ s
    → e.span ≡ x → e.ticket ≡ 0 → e ≡ record { resource = r; scope = s; span = x; ticket = 0 }
same-ended e r s x p q h t =
    let make : Resource → Scope → Span → ℕ → SpanData =
    λ r s x n. record { resource = r; scope = s; span = x; ticket = n } in
    ap (λ y. make y e.scope e.span e.ticket) p ∙ ap (λ y. make r y e.span e.ticket) q
    ∙ ap (λ y. make r s y e.ticket) h ∙ ap (λ n. make r s x n) t

-- A span that one of its calls ended is the span that all its calls make.
pub ended : (first r : SpanRecord) (e : SpanData) (start : Start) (before after : List Call)
    (at : ℕ)
    → KeepsPlace first r → Records r start before → Ends at r e →
    e
    ≡ record {
      resource = first.resource;
      scope = first.scope;
      span = span first.limits start (before ++ end at ∷ after);
      ticket = 0;
    }
ended first r e start before after at place rec ends =
    let whole : e.span ≡ span first.limits start (before ++ end at ∷ after) =
    ends.value start before rec ∙ ap (λ l. span l start (before ++ end at ∷ [])) place.limits
    ∙ sym (span-after first.limits start before after at rec.none_ends) in
    same-ended e first.resource first.scope _ (ends.resource ∙ place.resource)
    (ends.scope ∙ place.scope) whole ends.ticket

-- A span that none of its calls ended, closed at the time of its start, is the span that its calls
-- make.
pub unended : (first r : SpanRecord) (e : SpanData) (start : Start) (calls : List Call)
    → KeepsPlace first r → Records r start calls → Ends start.at r e →
    e
    ≡ record {
      resource = first.resource;
      scope = first.scope;
      span = span first.limits start calls;
      ticket = 0;
    }
unended first r e start calls place rec ends =
    let whole : e.span ≡ span first.limits start calls =
    ends.value start calls rec ∙ ap (λ l. span l start (calls ++ end start.at ∷ [])) place.limits
    ∙ span-ended first.limits start calls start.at rec.none_ends
    ∙ span-unended first.limits start calls rec.none_ends in
    same-ended e first.resource first.scope _ (ends.resource ∙ place.resource)
    (ends.scope ∙ place.scope) whole ends.ticket
