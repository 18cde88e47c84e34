-- Which traces are left.
use Rattle.std.proofs.Common.{◌≡◌, ℕ, ◌+◌, ◌-◌, ◌^◌, ◌<◌, ◌≤◌, List, [], ◌∷◌, ◌++◌, drop, length}
use Rattle.std.proofs.Common.{reverse, sym, ◌∙◌, ap, subst, arith, append-nil, append_assoc}
use Rattle.std.proofs.lemmas.List.{drop-append-le, drop-drop, length-append, length-drop}
use Rattle.std.proofs.lemmas.List.{reverse-append}
use Rattle.std.specs.Prelude.{min}
use Rattle.circular_buffer.specs.Buffer.{keep_last}
use Rattle.trace_store.specs.Stores.{AreNewest, AreWithin, Evicts, Kept}
use Rattle.trace_store.specs.Traces.{traces_of}

-- All traces are the newest traces, where no trace was left out.
pub all_newest : {S : Type 0} (size : S → ℕ) (spans bytes : ℕ) (all : List (ℕ × List S))
    → AreNewest size spans bytes all all
all_newest size spans bytes all =
    record { older = []; split = sym (append-nil all); needed = λ next others e. cc }

-- The newest traces stay the newest ones when the last of them is evicted, where with it they were
-- out of bounds.
pub one_older : {S : Type 0} (size : S → ℕ) (spans bytes : ℕ) (all newest left : List (ℕ × List S))
    (oldest : ℕ × List S)
    → AreNewest size spans bytes all newest → ¬ AreWithin size spans bytes newest
    → newest ≡ left ++ oldest ∷ []
    → AreNewest size spans bytes all left
one_older size spans bytes all newest left oldest h many split = record {
  older = oldest ∷ h.older;
  split = h.split ∙ ap (λ x. x ++ h.older) split ∙ append_assoc left (oldest ∷ []) h.older;
  needed = λ next others e w.
      let same : oldest ≡ next = cc in
      many (subst (AreWithin size spans bytes) (ap (λ x. left ++ x ∷ []) (sym same) ∙ sym split) w);
}

-- Traces that aren't within the bounds are at least one trace.
pub some_there : {S : Type 0} (size : S → ℕ) (spans bytes : ℕ) (traces : List (ℕ × List S))
    → ¬ AreWithin size spans bytes traces → 0 < length traces
some_there size spans bytes [] many =
    absurd (many (record { spans_fit = omega arith; bytes_fit = omega arith }))
some_there size spans bytes (t ∷ ts) many = omega arith

-- ---- names

-- The last n of a list's last n items and some further items are the last n of the whole list and
-- these items.
pub last_more : {X : Type 0} (n : ℕ) (xs ys : List X) → length ys ≤ n
    → keep_last n (keep_last n xs ++ ys) ≡ keep_last n (xs ++ ys)
last_more n xs ys fits =
    let cut = length-drop (length xs - n) xs in
    let joined = length-append (keep_last n xs) ys in
    let whole = length-append xs ys in
    let same : length xs - n + (length (keep_last n xs ++ ys) - n) ≡ length (xs ++ ys) - n =
    omega arith in
    drop-append-le (length (keep_last n xs ++ ys) - n) (keep_last n xs) ys (omega arith)
    ∙ ap (λ l. l ++ ys) (drop-drop (length (keep_last n xs ++ ys) - n) (length xs - n) xs)
    ∙ ap (λ k. drop k xs ++ ys) same
    ∙ sym (drop-append-le (length (xs ++ ys) - n) xs ys (omega arith))

last_all : {X : Type 0} (n : ℕ) (xs : List X) → length xs ≤ n → keep_last n (xs ++ []) ≡ xs
last_all n xs fits =
    let none : length xs - n ≡ 0 = omega arith in
    ap (keep_last n) (append-nil xs) ∙ ap (λ k. drop k xs) none

-- A store that evicted nothing names and counts what it did before.
pub none_evicted : {S : Type 0} (k : Kept S) → length k.last_evicted ≤ 1000
    → k.evicted_traces ≤ 2 ^ 64 - 1 → Evicts k.traces k k
none_evicted k fits low = record {
  older = [];
  split = sym (append-nil k.traces);
  named = record { count = omega arith; names = sym (last_all 1000 k.last_evicted fits) };
}

-- When the oldest trace goes as well, is counted and is named, the evictions so far include it.
pub one_evicted : {S : Type 0} (all : List (ℕ × List S)) (old mid new : Kept S)
    (oldest : ℕ × List S)
    → Evicts all old mid → mid.traces ≡ new.traces ++ oldest ∷ []
    → new.evicted_traces ≡ min (mid.evicted_traces + 1) (2 ^ 64 - 1)
    → new.last_evicted ≡ keep_last 1000 (mid.last_evicted ++ oldest.0 ∷ [])
    → Evicts all old new
one_evicted all old mid new oldest h split count names =
    let before = h.named.count in
    let order : reverse (traces_of (oldest ∷ h.older))
    ≡ reverse (traces_of h.older) ++ oldest.0 ∷ [] =
    reverse-append (oldest.0 ∷ []) (traces_of h.older) in
    record {
      older = oldest ∷ h.older;
      split =
          h.split ∙ ap (λ x. x ++ h.older) split ∙ append_assoc new.traces (oldest ∷ []) h.older;
      named = record {
        count = omega (arith, count, before);
        names =
            names ∙ ap (λ l. keep_last 1000 (l ++ oldest.0 ∷ [])) h.named.names
            ∙ last_more 1000 (old.last_evicted ++ reverse (traces_of h.older)) (oldest.0 ∷ [])
            (omega arith)
            ∙ ap (keep_last 1000)
            (append_assoc old.last_evicted (reverse (traces_of h.older)) (oldest.0 ∷ [])
            ∙ ap (λ l. old.last_evicted ++ l) (sym order));
      };
    }

-- The last n items of a list are at most n.
pub last_fits : {X : Type 0} (n : ℕ) (xs : List X) → length (keep_last n xs) ≤ n
last_fits n xs = omega (arith, length-drop (length xs - n) xs)

-- The evicted traces are counted and named in the same way where spans were added before the
-- eviction.
pub evicts_from : {S : Type 0} (mid new old : Kept S) (all : List (ℕ × List S)) → mid.traces ≡ all
    → mid.evicted_traces ≡ old.evicted_traces → mid.last_evicted ≡ old.last_evicted
    → Evicts mid.traces mid new → Evicts all old new
evicts_from mid new old all traces count names h = record {
  older = h.older;
  split = sym traces ∙ h.split;
  named = record {
    count = h.named.count ∙ ap (λ n. min (n + length h.older) (2 ^ 64 - 1)) count;
    names = h.named.names ∙ ap (λ l. keep_last 1000 (l ++ reverse (traces_of h.older))) names;
  };
}
