-- What is counted of traces.
use Rattle.std.proofs.Common.{◌≡◌, ℕ, ◌+◌, ◌-◌, ◌<◌, ◌≤◌, List, [], ◌∷◌, ◌++◌, length, take, nat_eq}
use Rattle.std.proofs.Common.{Option, Some, None, refl, sym, ◌∙◌, ap, arith}
use Rattle.std.specs.Prelude.{MatchOption, sum_by, slice_get, unwrap_or, option_map}
use Rattle.std.specs.Map.{lookup, remove_entry, values_of}
use Rattle.std.proofs.lemmas.List.{take_more, map-append, length-append}
use Rattle.std.proofs.lemmas.List.Sums.{sum_by-append}
use Rattle.std.proofs.lemmas.Map.Entries.{sum_by-remove_entry}
use Rattle.std.proofs.lemmas.Option.{slice_get_within, slice_get-get_or, get_or_from_slice_get}
use Rattle.std.proofs.Math.Seq.{take-length}
use Rattle.lru.specs.LruCache.{LruCache, lru_cache}
use Rattle.trace_store.specs.Traces.{with_spans, spans_of, span_count, byte_count}

-- ---- the oldest trace

last_split : {T : Type 0} (es : List T) (e : T) → slice_get es (length es - 1) ≡ Some e
    → es ≡ take (length es - 1) es ++ e ∷ []
last_split es e h =
    let within : length es - 1 < length es = slice_get_within es (length es - 1) e h in
    let whole : length es - 1 + 1 ≡ length es = omega arith in
    sym (take-length es)
    ∙ ap (λ n. take n es) (sym whole)
    ∙ take_more es (length es - 1) e within
    ∙ ap (λ x. take (length es - 1) es ++ x ∷ []) (get_or_from_slice_get es (length es - 1) e e h)

no_last : {T : Type 0} (es : List T) → slice_get es (length es - 1) ≡ None → es ≡ []
no_last [] h = refl
no_last (e ∷ es) h =
    let within : length (e ∷ es) - 1 < length (e ∷ es) = omega arith in
    let there = slice_get-get_or (e ∷ es) (length (e ∷ es) - 1) e within in
    cc

-- what was popped was the last
popped : {S : Type 0} (c after : LruCache ℕ (List S)) (k : ℕ) (spans : List S)
    → slice_get c.entries (length c.entries - 1) ≡ Some (k, spans)
    → after ≡ lru_cache (take (length c.entries - 1) c.entries) c.cap
    → c.entries ≡ after.entries ++ (k, spans) ∷ []
popped c after k spans last popping =
    last_split c.entries (k, spans) last
    ∙ ap (λ x. x ++ (k, spans) ∷ []) (sym (ap (λ x. x.entries) popping))

-- A popped trace was the last one of the cache, and where none was popped, the cache was empty.
pub oldest_of : {S : Type 0} (c after : LruCache ℕ (List S)) (o : Option (ℕ × List S))
    → o ≡ slice_get c.entries (length c.entries - 1)
    → after ≡ lru_cache (take (length c.entries - 1) c.entries) c.cap
    → MatchOption o (c.entries ≡ []) (λ oldest. c.entries ≡ after.entries ++ oldest ∷ [])
oldest_of c after None none popping = no_last c.entries (sym none)
oldest_of c after (Some oldest) some popping = popped c after oldest.0 oldest.1 (sym some) popping

-- A sum over traces is the sum over all but the last one, and the value of the last one.
pub sum_last : {S : Type 0} (f : List S → ℕ) (es left : List (ℕ × List S)) (k : ℕ) (spans : List S)
    → es ≡ left ++ (k, spans) ∷ []
    → sum_by f (values_of es) ≡ sum_by f (values_of left) + f spans
sum_last f es left k spans split =
    let parts =
    ap (λ x. sum_by f (values_of x)) split
    ∙ ap (sum_by f) (map-append (λ x. x.1) left ((k, spans) ∷ []))
    ∙ sum_by-append f (values_of left) (spans ∷ []) in
    omega (arith, parts)

-- ---- a trace with more spans

of_found : {S : Type 0} (f : List S → ℕ) (o : Option (List S)) → f [] ≡ 0
    → f (unwrap_or o []) ≡ unwrap_or (option_map f o) 0
of_found f None none = none
of_found f (Some spans) none = refl

-- The sum over one trace and the sum over the others make the sum over all traces.
found_sum : {S : Type 0} (f : List S → ℕ) (es : List (ℕ × List S)) (k : ℕ) → f [] ≡ 0
    → sum_by f (values_of (remove_entry (nat_eq k) es)) + f (spans_of es k)
    ≡ sum_by f (values_of es)
found_sum f es k none =
    ap (λ n. sum_by f (values_of (remove_entry (nat_eq k) es)) + n)
    (of_found f (lookup (nat_eq k) es) none)
    ∙ sum_by-remove_entry f (nat_eq k) es

-- A sum over traces with more spans of one of them is larger by that of these spans.
pub with_sum : {S : Type 0} (f : List S → ℕ) (es : List (ℕ × List S)) (k : ℕ) (more : List S)
    → f [] ≡ 0
    → f (spans_of es k ++ more) ≡ f (spans_of es k) + f more
    → sum_by f (values_of (with_spans es k more)) ≡ sum_by f (values_of es) + f more
with_sum f es k more none adds =
    let whole : sum_by f (values_of (with_spans es k more))
    ≡ 0 + f (spans_of es k ++ more) + sum_by f (values_of (remove_entry (nat_eq k) es)) =
    sum_by-append f ((spans_of es k ++ more) ∷ []) (values_of (remove_entry (nat_eq k) es)) in
    whole ∙ omega (arith, found_sum f es k none, adds)

-- A trace has at most as many spans as all traces together.
pub spans_le : {S : Type 0} (es : List (ℕ × List S)) (k : ℕ)
    → length (spans_of es k) ≤ span_count es
spans_le es k = omega (arith, found_sum length es k refl)

-- A trace takes at most as many bytes as all traces together.
pub bytes_le : {S : Type 0} (size : S → ℕ) (es : List (ℕ × List S)) (k : ℕ)
    → sum_by size (spans_of es k) ≤ byte_count size es
bytes_le size es k = omega (arith, found_sum (sum_by size) es k refl)

-- Traces with more spans of one trace have that many more spans.
pub with_count : {S : Type 0} (es : List (ℕ × List S)) (k : ℕ) (more : List S)
    → span_count (with_spans es k more) ≡ span_count es + length more
with_count es k more = with_sum length es k more refl (length-append (spans_of es k) more)

-- Traces with more spans of one trace take as many more bytes as these spans take.
pub with_bytes : {S : Type 0} (size : S → ℕ) (es : List (ℕ × List S)) (k : ℕ) (more : List S)
    → byte_count size (with_spans es k more) ≡ byte_count size es + sum_by size more
with_bytes size es k more =
    with_sum (sum_by size) es k more refl (sum_by-append size (spans_of es k) more)
