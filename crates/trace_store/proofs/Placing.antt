-- The spans of a request, as they are kept.
use Rattle.std.proofs.Common.{◌≡◌, refl, sym, ap, ap₂, subst, ◌∙◌, ℕ, ◌+◌, List, [], ◌∷◌, ◌++◌, map}
use Rattle.std.proofs.Common.{length, arith, append_assoc, append-nil}
use Rattle.std.specs.BTreeSet.{BTreeSet, contains}
use Rattle.std.specs.BTreeMap.{is_at}
use Rattle.std.specs.Ordering.{nat_cmp}
use Rattle.std.specs.List.{list_any}
use Rattle.std.specs.Prelude.{◌-◌, ◌^◌, All, Bool, IfOk, false, if◌then◌else◌, min}
use Rattle.std.specs.Prelude.{Result, Ok, Err, true}
use Rattle.std.specs.Arc.{arc_value}
use Rattle.std.specs.List.{flat_map}
use Rattle.std.specs.List.Sorted.{IsPermutation}
use Rattle.std.specs.declared.sync.Arc.{Arc}
use Rattle.std.proofs.Math.ListN.{get_or-append, get_or-map}
use Rattle.std.proofs.lemmas.List.{length-append, map-append, get_or-append-add}
use Rattle.std.proofs.lemmas.List.Elements.{All-cons, All-map, All-nil}
use Rattle.std.proofs.lemmas.List.Sorted.{All-permutation, IsPermutation-map}
use Rattle.std.proofs.lemmas.Grind.{flat_map-append}
use Rattle.otlp_read.specs.declared.span.Span.{Span}
use Rattle.trace_store.specs.declared.span.ViewResource.{ViewResource}
use Rattle.trace_store.specs.declared.span.ViewScope.{ViewScope}
use Rattle.trace_store.specs.declared.span.ViewSpan.{ViewSpan}
use Rattle.trace_store.specs.SpanParts.{entries_of, entries_of_part}
use Rattle.otlp_read.specs.Memory.{at_most_64_bits}
use Rattle.trace_store.specs.Sizes.{resource_bytes, scope_bytes}
use Rattle.otlp_read.specs.declared.request.ResourceSpans.{ResourceSpans}
use Rattle.otlp_read.specs.declared.request.ScopeSpans.{ScopeSpans}
use Rattle.trace_store.specs.Requests.{IsOfOneTrace, Placed, TraceSet, and_spans, and_trace, key_of}
use Rattle.trace_store.specs.Requests.{keyed, keyed_of, no_trace, placed_after, placed_of, share_of}
use Rattle.trace_store.specs.Requests.{shares_of, spans_of_parts, spans_of_resource}
use Rattle.trace_store.specs.Requests.{spans_of_scope, spans_of_scopes, trace_of}

-- A kept span has the resource and the scope under which it was put.
pub placed : {A : Type 0} (kept : Arc (ViewSpan A) A) (span : Span A)
    (r r' : Arc (ViewResource A) A) (s s' : Arc (ViewScope A) A) (shared : ℕ)
    → arc_value kept ≡ record { span = span; resource = r; scope = s; shared = shared }
    → arc_value r ≡ arc_value r' → arc_value s ≡ arc_value s'
    → placed_of kept
    ≡ record { resource = arc_value r'; scope = arc_value s'; span = span; shared = shared }
placed {A} kept span r r' s s' shared is same_r same_s =
    ap (λ (v : ViewSpan A). let p : Placed A =
    record {
      resource = arc_value v.resource;
      scope = arc_value v.scope;
      span = v.span;
      shared = v.shared;
    } in
    p)
    is
    ∙ ap (λ x.
    let p : Placed A = record { resource = x; scope = arc_value s; span = span; shared = shared } in
    p)
    same_r
    ∙ ap (λ x. let p : Placed A =
    record { resource = arc_value r'; scope = x; span = span; shared = shared } in
    p)
    same_s

-- A kept span that is appended to a list is its last entry, under its key.
pub kept_more : {A : Type 0} (old new : List (ℕ × Arc (ViewSpan A) A)) (key : ℕ)
    (kept : Arc (ViewSpan A) A) (p : Placed A)
    → new ≡ old ++ (key, kept) ∷ [] → placed_of kept ≡ p
    → keyed_of new ≡ keyed_of old ++ (key, p) ∷ []
kept_more old new key kept p push is =
    ap keyed_of push ∙ map-append (λ e. (e.0, placed_of e.1)) old ((key, kept) ∷ [])
    ∙ ap (λ e. keyed_of old ++ (key, e) ∷ []) is

counted_by : (b c : Bool) (rb sb size own first second shared : ℕ) → size ≡ at_most_64_bits rb
    → own ≡ at_most_64_bits sb → first ≡ (if b then 0 else size)
    → second ≡ (if c then 0 else own) → shared ≡ min (first + second) (2 ^ 64 - 1)
    → shared ≡ at_most_64_bits ((if b then 0 else rb) + (if c then 0 else sb))
counted_by true true rb sb size own first second shared h k f s is = omega arith
counted_by true false rb sb size own first second shared h k f s is = omega arith
counted_by false true rb sb size own first second shared h k f s is = omega arith
counted_by false false rb sb size own first second shared h k f s is = omega arith

-- The bytes counted with the next span are its share of the resource and its share of the scope.
pub counted : {A : Type 0} (r : ViewResource A) (s made : ViewScope A)
    (of_resource of_scope : TraceSet) (trace size own first second shared : ℕ)
    → size ≡ at_most_64_bits (resource_bytes r) → own ≡ at_most_64_bits (scope_bytes made)
    → s ≡ made → first ≡ share_of size of_resource trace → second ≡ share_of own of_scope trace
    → shared ≡ min (first + second) (2 ^ 64 - 1)
    → shared ≡ shares_of r s of_resource of_scope trace
counted r s made of_resource of_scope trace size own first second shared h k is f g sum =
    counted_by (of_resource trace) (of_scope trace) (resource_bytes r)
    (scope_bytes s) size own first
    second shared h (k ∙ ap (λ x. at_most_64_bits (scope_bytes x)) (sym is)) f g sum

-- After the next span of a scope is appended, the rest of the scope completes the same list.
pub next_placed : {A : Type 0} (r : ViewResource A) (s : ViewScope A)
    (of_resource of_scope of_resource' of_scope' : TraceSet)
    (rest rest' : List (Span A)) (x : Span A) (old new whole : List (ℕ × Placed A))
    (trace shared : ℕ)
    → old ++ map keyed (placed_after r s of_resource of_scope rest) ≡ whole → rest ≡ x ∷ rest'
    → trace ≡ trace_of x → shared ≡ shares_of r s of_resource of_scope trace
    → of_resource' ≡ and_trace of_resource trace → of_scope' ≡ and_trace of_scope trace
    → new ≡ old ++ (trace, record { resource = r; scope = s; span = x; shared = shared }) ∷ []
    → new ++ map keyed (placed_after r s of_resource' of_scope' rest') ≡ whole
next_placed {A} r s of_resource of_scope of_resource' of_scope' rest rest' x old new whole trace
    shared inv next same share more_r more_s push =
    let q : ℕ → Placed A = λ n. record { resource = r; scope = s; span = x; shared = n } in
    let left : List (ℕ × Placed A) = map keyed (placed_after r s of_resource' of_scope' rest') in
    let sets : left
    ≡ map keyed
    (placed_after r s (and_trace of_resource trace) (and_trace of_scope trace) rest') =
    ap₂ (λ a b. map keyed (placed_after r s a b rest')) more_r more_s in
    let one : (trace, q shared) ∷ left ≡ map keyed (placed_after r s of_resource of_scope rest) =
    ap (λ l. (trace, q shared) ∷ l) sets
    ∙ ap₂ (λ t n. (t, q n)
    ∷ map keyed (placed_after r s (and_trace of_resource t) (and_trace of_scope t) rest')) same
    (share ∙ ap (shares_of r s of_resource of_scope) same)
    ∙ sym (ap (λ l. map keyed (placed_after r s of_resource of_scope l)) next) in
    ap (λ l. l ++ left) push ∙ append_assoc old ((trace, q shared) ∷ []) left
    ∙ ap (λ l. old ++ l) one ∙ inv

-- After the next span, the traces so far and those of the rest are the same together.
pub next_before : {A : Type 0} (before before' whole : TraceSet) (rest rest' : List (Span A))
    (x : Span A) (trace : ℕ)
    → and_spans before rest ≡ whole → rest ≡ x ∷ rest' → trace ≡ trace_of x
    → before' ≡ and_trace before trace
    → and_spans before' rest' ≡ whole
next_before before before' whole rest rest' x trace inv next same more =
    ap (λ b. and_spans b rest') more ∙ ap (λ t. and_spans (and_trace before t) rest') same
    ∙ sym (ap (and_spans before) next) ∙ inv

-- After one more item of a loop, the list ends with the entries of all items so far.
pub some_pushed : {X Y Z : Type 0} (k : Y → Z) (f : X → List Y) (start old new : List Z)
    (done : List X) (x : X)
    → old ≡ start ++ map k (flat_map f done) → new ≡ old ++ map k (f x)
    → new ≡ start ++ map k (flat_map f (done ++ x ∷ []))
some_pushed k f start old new done x before push =
    push ∙ ap (λ l. l ++ map k (f x)) before
    ∙ append_assoc start (map k (flat_map f done)) (map k (f x))
    ∙ ap (λ l. start ++ l)
    (sym (ap (map k)
    (flat_map-append f done (x ∷ []) ∙ ap (λ l. flat_map f done ++ l) (append-nil (f x)))
    ∙ map-append k (flat_map f done) (f x)))

-- Once no span of a scope is left, all spans of the scope are appended.
pub scope_done : {A : Type 0} (start now : List (ℕ × Placed A)) (r : ViewResource A)
    (s : ViewScope A) (before of_resource of_scope : TraceSet) (group : ScopeSpans A)
    (rest : List (Span A))
    → now ++ map keyed (placed_after r s of_resource of_scope rest)
    ≡ start ++ map keyed (placed_after r s before no_trace group.spans.items)
    → rest ≡ [] → s ≡ record { scope = group.scope; schema_url = group.schema_url }
    → now ≡ start ++ map keyed (spans_of_scope r before group)
scope_done start now r s before of_resource of_scope group rest h ends is =
    sym (append-nil now)
    ∙ ap (λ l. now ++ map keyed (placed_after r s of_resource of_scope l)) (sym ends)
    ∙ h ∙ ap (λ x. start ++ map keyed (placed_after r x before no_trace group.spans.items)) is

-- Once no span of a scope is left, its traces are counted among those of the resource.
pub before_done : {A : Type 0} (before whole : TraceSet) (rest : List (Span A))
    → and_spans before rest ≡ whole → rest ≡ [] → before ≡ whole
before_done before whole rest h ends = sym (ap (and_spans before) ends) ∙ h

-- After the next scope of a resource is appended, the rest of the resource completes the same list.
pub next_scope : {A : Type 0} (r : ViewResource A) (before before' : TraceSet)
    (rest rest' : List (ScopeSpans A)) (group : ScopeSpans A) (old new whole : List (ℕ × Placed A))
    → old ++ map keyed (spans_of_scopes r before rest) ≡ whole → rest ≡ group ∷ rest'
    → new ≡ old ++ map keyed (spans_of_scope r before group)
    → before' ≡ and_spans before group.spans.items
    → new ++ map keyed (spans_of_scopes r before' rest') ≡ whole
next_scope r before before' rest rest' group old new whole inv next push more =
    let own = map keyed (spans_of_scope r before group) in
    let left = map keyed (spans_of_scopes r before' rest') in
    ap (λ l. l ++ left) push ∙ append_assoc old own left
    ∙ ap (λ l. old ++ l)
    (ap (λ b. own ++ map keyed (spans_of_scopes r b rest')) more
    ∙ sym (map-append keyed (spans_of_scope r before group)
    (spans_of_scopes r (and_spans before group.spans.items) rest'))
    ∙ sym (ap (λ l. map keyed (spans_of_scopes r before l)) next))
    ∙ inv

-- Once no scope of a resource is left, all spans of the resource are appended.
pub resource_done : {A : Type 0} (start now : List (ℕ × Placed A)) (r : ViewResource A)
    (before : TraceSet) (group : ResourceSpans A) (rest : List (ScopeSpans A))
    → now ++ map keyed (spans_of_scopes r before rest)
    ≡ start ++ map keyed (spans_of_scopes r no_trace group.scope_spans.items)
    → rest ≡ [] → r ≡ record { resource = group.resource; schema_url = group.schema_url }
    → now ≡ start ++ map keyed (spans_of_resource group)
resource_done start now r before group rest h ends is =
    sym (append-nil now)
    ∙ ap (λ l. now ++ map keyed (spans_of_scopes r before l)) (sym ends)
    ∙ h ∙ ap (λ x. start ++ map keyed (spans_of_scopes x no_trace group.scope_spans.items)) is

-- ---- the traces so far

-- An empty set has no trace.
pub empty_set : (set : BTreeSet ℕ) → set.keys ≡ [] → contains nat_cmp set ≡ no_trace
empty_set set none = ap (λ keys q. list_any (is_at (nat_cmp q)) keys) none

-- What holds of a result's value carries over to whatever follows from it.
pub if_ok : {T E : Type 0} (P Q : T → Type 0) (r : Result T E) → ((x : T) → P x → Q x) → IfOk r P
    → IfOk r Q
if_ok P Q (Ok x) f h = f x h
if_ok P Q (Err e) f h = h

-- ---- parts

first_of : {A : Type 0} (ps : List (Placed A)) → map (λ e. e.1) (map keyed ps) ≡ ps
first_of [] = refl
first_of (p ∷ ps) = ap (λ l. p ∷ l) (first_of ps)

kept_first : {A : Type 0} (es : List (ℕ × Arc (ViewSpan A) A))
    → map (λ e. e.1) (keyed_of es) ≡ map (λ e. placed_of e.1) es
kept_first [] = refl
kept_first (e ∷ es) = ap (λ l. placed_of e.1 ∷ l) (kept_first es)

part_spans : {A : Type 0} (key : ℕ) (ss : List (Arc (ViewSpan A) A))
    → map (λ e. placed_of e.1) (entries_of_part (key, ss)) ≡ map placed_of ss
part_spans key [] = refl
part_spans key (s ∷ ss) = ap (λ l. placed_of s ∷ l) (part_spans key ss)

parts_spans : {A : Type 0} (parts : List (ℕ × List (Arc (ViewSpan A) A)))
    → map (λ e. placed_of e.1) (entries_of parts) ≡ spans_of_parts parts
parts_spans [] = refl
parts_spans (p ∷ ps) =
    map-append (λ e. placed_of e.1) (entries_of_part p) (entries_of ps)
    ∙ ap₂ (λ l m. l ++ m) (part_spans p.0 p.1) (parts_spans ps)

-- The spans of the parts are those of the request, in some order.
pub parts_are : {A : Type 0} (found sorted : List (ℕ × Arc (ViewSpan A) A))
    (spans : List (Placed A)) (parts : List (ℕ × List (Arc (ViewSpan A) A)))
    → keyed_of found ≡ map keyed spans → IsPermutation found sorted → sorted ≡ entries_of parts
    → IsPermutation spans (spans_of_parts parts)
parts_are found sorted spans parts keys order whole =
    let from : map (λ e. placed_of e.1) found ≡ spans =
    sym (kept_first found) ∙ ap (map (λ e. e.1)) keys ∙ first_of spans in
    let to : map (λ e. placed_of e.1) sorted ≡ spans_of_parts parts =
    ap (map (λ e. placed_of e.1)) whole ∙ parts_spans parts in
    subst (λ l. IsPermutation l (spans_of_parts parts)) from
    (subst (λ l. IsPermutation (map (λ e. placed_of e.1) found) l) to
    (IsPermutation-map (λ e. placed_of e.1) found sorted order))

all_left : {X : Type 0} (P : X → Type 0) (xs ys : List X) → All P (xs ++ ys) → All P xs
all_left P xs ys h k d within =
    subst P (get_or-append xs ys d k within) (h k d (omega (arith, length-append xs ys)))

all_right : {X : Type 0} (P : X → Type 0) (xs ys : List X) → All P (xs ++ ys) → All P ys
all_right P xs ys h k d within =
    subst P (get_or-append-add xs ys k d) (h (length xs + k) d (omega (arith, length-append xs ys)))

abbrev HasKey : {A : Type 0} → ℕ × Placed A → Type 0
HasKey e = key_of e.1 ≡ e.0

length_map : {X Y : Type 0} (f : X → Y) (xs : List X) → length (map f xs) ≡ length xs
length_map f [] = refl
length_map f (x ∷ xs) = omega (arith, length_map f xs)

one_trace : {A : Type 0} (key : ℕ) (ss : List (Arc (ViewSpan A) A))
    → All HasKey (keyed_of (entries_of_part (key, ss))) → IsOfOneTrace (key, ss)
one_trace {A} key ss h k d within =
    let f : Arc (ViewSpan A) A → ℕ × Arc (ViewSpan A) A = λ s. (key, s) in
    let v : ℕ × Arc (ViewSpan A) A → ℕ × Placed A = λ e. (e.0, placed_of e.1) in
    subst HasKey (get_or-map v (map f ss) k (f d) ∙ ap v (get_or-map f ss k d))
    (h k (v (f d)) (omega (arith, length_map v (map f ss), length_map f ss)))

of_traces : {A : Type 0} (parts : List (ℕ × List (Arc (ViewSpan A) A)))
    → All HasKey (keyed_of (entries_of parts)) → All IsOfOneTrace parts
of_traces [] h = All-nil _
of_traces (p ∷ ps) h =
    let both =
    subst (All HasKey)
    (map-append (λ e. (e.0, placed_of e.1)) (entries_of_part p) (entries_of ps)) h in
    All-cons IsOfOneTrace p ps
    (one_trace p.0 p.1
    (all_left HasKey (keyed_of (entries_of_part p)) (keyed_of (entries_of ps)) both))
    (of_traces ps (all_right HasKey (keyed_of (entries_of_part p)) (keyed_of (entries_of ps)) both))

-- Each span of a part is of the part's trace.
pub parts_keep : {A : Type 0} (found sorted : List (ℕ × Arc (ViewSpan A) A))
    (spans : List (Placed A)) (parts : List (ℕ × List (Arc (ViewSpan A) A)))
    → keyed_of found ≡ map keyed spans → IsPermutation found sorted → sorted ≡ entries_of parts
    → All IsOfOneTrace parts
parts_keep found sorted spans parts keys order whole =
    let each : All HasKey (map keyed spans) = All-map HasKey keyed spans (λ k d within. refl) in
    let all : All HasKey (keyed_of found) = subst (All HasKey) (sym keys) each in
    let moved : All HasKey (keyed_of sorted) =
    All-permutation HasKey (keyed_of found) (keyed_of sorted)
    (IsPermutation-map (λ e. (e.0, placed_of e.1)) found sorted order) all in
    of_traces parts (subst (λ l. All HasKey (keyed_of l)) whole moved)
