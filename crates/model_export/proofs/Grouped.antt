-- The request that carries groups of spans holds just those spans, group by group.
use Rattle.std.proofs.Common.{◌≡◌, refl, ap, ap₂, ◌∙◌, ℕ, ℤ, List, [], ◌∷◌, ◌++◌, map, flat_map}
use Rattle.std.proofs.Common.{filter, cond, Bool, true, false, bytes_eq}
use Rattle.std.specs.Bool.{beq}
use Rattle.std.specs.Ordering.{int_eq}
use Rattle.std.specs.List.{AllByRecursion}
use Rattle.std.proofs.lemmas.Bool.{false≢true, and_parts}
use Rattle.std.proofs.lemmas.Bool.Decides.{Decides-int_eq}
use lib.Pointwise.{pointwise, bytes_decides}
use Rattle.model_message.specs.Messages.{triples, resource_triples, scope_triples}
use Rattle.model_span.specs.Attributes.{Value, text, bool, int, texts, bools, ints, Attribute}
use Rattle.model_span.specs.Attributes.{distinct_of}
use Rattle.model_span.specs.Spans.{Resource, Scope, SpanData}
use Rattle.model_span.proofs.Lists.{filter-keeps}
use Rattle.model_export.specs.Export.{ScopeGroup, ResourceGroup, value_eq, attribute_eq}
use Rattle.model_export.specs.Export.{resource_eq, scope_eq, groups_by, groups, resource_message}
use Rattle.model_export.specs.Export.{scope_message, span_message, triple_in, triple, triples_of}
use Rattle.model_export.specs.Export.{request_message, resource_spans_message, scope_spans_message}
use Rattle.model_export.specs.Export.{grouped_triples}

same-bit : (b c : Bool) → beq b c ≡ true → b ≡ c
same-bit true true h = refl
same-bit false false h = refl
same-bit true false h = absurd (false≢true h)
same-bit false true h = absurd (false≢true h)

same-list : {A : Type 0} (eq : A → A → Bool) → ((x y : A) → eq x y ≡ true → x ≡ y)
    → (xs ys : List A) → pointwise eq xs ys ≡ true → xs ≡ ys
same-list eq same [] [] h = refl
same-list eq same [] (y ∷ ys) h = absurd (false≢true h)
same-list eq same (x ∷ xs) [] h = absurd (false≢true h)
same-list eq same (x ∷ xs) (y ∷ ys) h =
    let p = and_parts (eq x y) (pointwise eq xs ys) h in
    ap₂ (λ z zs. z ∷ zs) (same x y p.0) (same-list eq same xs ys p.1)

same-bytes : (xs ys : List ℕ) → bytes_eq xs ys ≡ true → xs ≡ ys
same-bytes xs ys h = (bytes_decides xs ys).0 h

same-int : (i j : ℤ) → int_eq i j ≡ true → i ≡ j
same-int i j h = (Decides-int_eq i j).0 h

same-value : (a b : Value) → value_eq a b ≡ true → a ≡ b
same-value (text t) (text u) h = ap text (same-bytes t u h)
same-value (bool b) (bool c) h = ap bool (same-bit b c h)
same-value (int i) (int j) h = ap int (same-int i j h)
same-value (texts ts) (texts us) h = ap texts (same-list bytes_eq same-bytes ts us h)
same-value (bools bs) (bools cs) h = ap bools (same-list beq same-bit bs cs h)
same-value (ints is) (ints js) h = ap ints (same-list int_eq same-int is js h)
same-value _ _ h = absurd (false≢true h)

same-attribute : (p q : Attribute) → attribute_eq p q ≡ true → p ≡ q
same-attribute p q h = let e = and_parts (bytes_eq p.key q.key) (value_eq p.value q.value) h in
    ap₂ (λ k v. record { key = k; value = v }) (same-bytes p.key q.key e.0)
    (same-value p.value q.value e.1)

-- Resources that the test finds equal are equal.
pub same-resource : (r s : Resource) → resource_eq r s ≡ true → r ≡ s
same-resource r s h =
    let e =
    and_parts (pointwise attribute_eq r.attributes s.attributes) (bytes_eq r.schema s.schema) h in
    ap₂ (λ a u. record { attributes = a; schema = u })
    (same-list attribute_eq same-attribute r.attributes s.attributes e.0)
    (same-bytes r.schema s.schema e.1)

-- Scopes that the test finds equal are equal.
pub same-scope : (r s : Scope) → scope_eq r s ≡ true → r ≡ s
same-scope r s h =
    let name = and_parts (bytes_eq r.name s.name) _ h in
    let version = and_parts (bytes_eq r.version s.version) _ name.1 in
    let rest =
    and_parts (pointwise attribute_eq r.attributes s.attributes)
    (bytes_eq r.schema s.schema) version.1 in
    ap₂ (λ n v. record { name = n; version = v; attributes = r.attributes; schema = r.schema })
    (same-bytes r.name s.name name.0) (same-bytes r.version s.version version.0)
    ∙ ap₂ (λ a u. record { name = s.name; version = s.version; attributes = a; schema = u })
    (same-list attribute_eq same-attribute r.attributes s.attributes rest.0)
    (same-bytes r.schema s.schema rest.1)

-- ---- lists

filter-all : {A : Type 0} (test : A → Bool) (xs : List A)
    → AllByRecursion (λ x. test x ≡ true) (filter test xs)
filter-all test [] = tt
filter-all {A = A} test (x ∷ xs) = go (test x) refl (filter-all test xs)
  where
    go : (t : Bool) → test x ≡ t → AllByRecursion (λ x. test x ≡ true) (filter test xs)
        → AllByRecursion (λ (x : A). test x ≡ true) (cond t (x ∷ filter test xs) (filter test xs))
    go true e h = (e, h)
    go false e h = h

map-same : {A B : Type 0} (P Q : A → Type 0) (f g : A → B) → ((x : A) → P x → Q x → f x ≡ g x)
    → (xs : List A) → AllByRecursion P xs → AllByRecursion Q xs → map f xs ≡ map g xs
map-same P Q f g same [] p q = refl
map-same P Q f g same (x ∷ xs) p q =
    ap₂ (λ y ys. y ∷ ys) (same x p.0 q.0) (map-same P Q f g same xs p.1 q.1)

map-map : {A B C : Type 0} (f : B → C) (g : A → B) (xs : List A)
    → map f (map g xs) ≡ map (λ x. f (g x)) xs
map-map f g [] = refl
map-map f g (x ∷ xs) = ap (λ l. f (g x) ∷ l) (map-map f g xs)

-- ---- a request

scopes-carried : (r : Resource) (hs : List ScopeGroup)
    → flat_map (scope_triples (resource_message r) r.schema) (map scope_spans_message hs)
    ≡ flat_map (λ h. map (λ x. triple_in r h.key x.span) h.items) hs
scopes-carried r [] = refl
scopes-carried r (h ∷ hs) =
    ap₂ (λ a b. a ++ b)
    (map-map (λ y. record {
      resource = resource_message r;
      resource_schema = r.schema;
      scope = scope_message h.key;
      scope_schema = h.key.schema;
      span = y;
    })
    (λ x. span_message x.span) h.items)
    (scopes-carried r hs)

-- The spans of the request that carries some groups are the spans of these groups.
pub carried-triples : (gs : List ResourceGroup) → triples (request_message gs) ≡ triples_of gs
unfolding request_message triples_of
carried-triples [] = refl
carried-triples (g ∷ gs) =
    ap₂ (λ a b. a ++ b) (scopes-carried g.key g.items) (unfold request_message triples_of in
    carried-triples gs)

-- ---- the groups

-- The spans in the request of a scope under a resource are those of that group.
scope-same : (r : Resource) (s : Scope) (spans : List SpanData)
    → AllByRecursion (λ x. resource_eq r x.resource ≡ true) spans →
    scope_triples (resource_message r) r.schema (
      scope_message s,
      (map (λ x. span_message x.span) (filter (λ x. scope_eq s x.scope) spans), (s.schema, tt)),
    )
    ≡ map triple (filter (λ x. scope_eq s x.scope) spans)
unfolding triple
scope-same r s spans h =
    map-map (λ y. record {
      resource = resource_message r;
      resource_schema = r.schema;
      scope = scope_message s;
      scope_schema = s.schema;
      span = y;
    })
    (λ x. span_message x.span) (filter (λ x. scope_eq s x.scope) spans)
    ∙ map-same (λ x. resource_eq r x.resource ≡ true) (λ x. scope_eq s x.scope ≡ true) _ triple
    (λ x p q. ap₂ (λ a b. record {
      resource = resource_message a;
      resource_schema = a.schema;
      scope = scope_message b;
      scope_schema = b.schema;
      span = span_message x.span;
    })
    (same-resource r x.resource p) (same-scope s x.scope q))
    (filter (λ x. scope_eq s x.scope) spans) (filter-keeps _ (λ x. scope_eq s x.scope) spans h)
    (filter-all (λ x. scope_eq s x.scope) spans)

resource-same : (r : Resource) (spans : List SpanData)
    → AllByRecursion (λ x. resource_eq r x.resource ≡ true) spans →
    flat_map (scope_triples (resource_message r) r.schema)
    (map scope_spans_message (groups_by scope_eq (λ x. x.scope) spans))
    ≡ flat_map (λ g. map triple g.items) (groups_by scope_eq (λ x. x.scope) spans)
unfolding groups_by
resource-same r spans h = go (distinct_of scope_eq (map (λ x. x.scope) spans))
  where
    go : (keys : List Scope)
        → flat_map (scope_triples (resource_message r) r.schema)
        (map scope_spans_message
        (map (λ k. record { key = k; items = filter (λ x. scope_eq k x.scope) spans }) keys))
        ≡ flat_map (λ (g : ScopeGroup). map triple g.items)
        (map (λ k. record { key = k; items = filter (λ x. scope_eq k x.scope) spans }) keys)
    go [] = refl
    go (k ∷ keys) = ap₂ (λ a b. a ++ b) (scope-same r k spans h) (go keys)

-- The request that carries the groups of the spans has their triples, in the order of the groups.
among : List SpanData → Resource → List SpanData
among spans r = filter (λ x. resource_eq r x.resource) spans

of-resource : List SpanData → Resource → ResourceGroup
unfolding among
of-resource spans r = record { key = r; items = groups_by scope_eq (λ x. x.scope) (among spans r) }

of-resources : (spans : List SpanData) (keys : List Resource)
    → flat_map resource_triples (map resource_spans_message (map (of-resource spans) keys))
    ≡ flat_map (λ g. flat_map (λ h. map triple h.items) g.items) (map (of-resource spans) keys)
unfolding of-resource
of-resources spans [] = refl
of-resources spans (r ∷ keys) =
    ap₂ (λ a b. a ++ b)
    (resource-same r (among spans r) (filter-all (λ x. resource_eq r x.resource) spans))
    (of-resources spans keys)

groups-are : (spans : List SpanData)
    → groups spans ≡ map (of-resource spans) (distinct_of resource_eq (map (λ x. x.resource) spans))
unfolding groups groups_by of-resource
groups-are spans = map-map _ _ (distinct_of resource_eq (map (λ x. x.resource) spans))

-- The request that carries the groups of some spans has these spans, group by group.
pub request-triples : (spans : List SpanData)
    → triples (request_message (groups spans)) ≡ grouped_triples spans
unfolding request_message grouped_triples
request-triples spans =
    rw (groups-are spans)
    (of-resources spans (distinct_of resource_eq (map (λ x. x.resource) spans)))
