-- Several calls on a span, and one where calls don't count.
use Rattle.std.proofs.Common.{◌≡◌, refl, sym, ap, subst, ◌∙◌, ℕ, ◌+◌, ◌<◌, add-one, List, [], ◌∷◌}
use Rattle.std.proofs.Common.{◌++◌, append_assoc, length, map, take, take_all, get_or, ◌≤◌, Bool}
use Rattle.std.proofs.Common.{true, false, ◌||◌, Result, Ok, Err, OnErr}
use Rattle.std.specs.List.{list_any}
use Rattle.std.proofs.lemmas.List.{get_or-map, length-map}
use Rattle.std.proofs.lemmas.List.Folds.{list_any-append}
use Rattle.std.proofs.Math.Seq.{take-suc}
use Rattle.model_span.specs.Spans.{Call, is_end}
use Rattle.model_span.specs.Sampling.{is_recording}
use Rattle.model_span.specs.Starts.{Does, HeldSpan, IgnoredUnlessRecording, SpanState, StartedSpan}
use Rattle.model_span.specs.Starts.{held_span, is_recording_state, state_after}
use Rattle.trace_api.specs.ExtCalls.{DoesAll, DoesFirst}

-- ---- where calls don't count

any-more : (c : Call) (calls : List Call) (b : Bool) → list_any is_end calls ≡ b → is_end c ≡ false
    → list_any is_end (calls ++ c ∷ []) ≡ (b || (false || false))
any-more c calls b e f = list_any-append is_end calls (c ∷ []) ∙ rw (e, f) refl

same-state : (s : StartedSpan) (calls : List Call) (c : Call) (b d : Bool)
    → list_any is_end calls ≡ b → is_recording s.decision ≡ d → is_end c ≡ false
    → is_recording_state (state_after s calls) ≡ false →
    state_after s (calls ++ c ∷ []) ≡ state_after s calls
same-state s calls c true d e f k n = rw (any-more c calls true e k, e) refl
same-state s calls c false true e f k n = absurd (no-true (sym (recorded s calls e f) ∙ n))
  where
    recorded : (s : StartedSpan) (calls : List Call) → list_any is_end calls ≡ false
        → is_recording s.decision ≡ true → is_recording_state (state_after s calls) ≡ true
    recorded s calls e f = rw (e, f) refl

    no-true : true ≡ false → ⊥
    no-true h = cc
same-state s calls c false false e f k n = rw (any-more c calls false e k, e, f) refl

-- A call other than an end leaves a held span that records nothing as it is.
pub does-nothing : (c : Call) (h : HeldSpan) → is_end c ≡ false → is_recording_state h.state ≡ false
    → Does c h h
unfolding held_span
does-nothing c h k n = record {
  context = refl;
  value = λ s calls e.
      let was : h.state ≡ state_after s calls = ap (λ (x : HeldSpan). x.state) e in
      let off : is_recording_state (state_after s calls) ≡ false =
      ap is_recording_state (sym was) ∙ n in
      let make : SpanState → HeldSpan = λ x. record { context = s.start.context; state = x } in
      e
      ∙ ap make
      (sym
      (same-state s calls c (list_any is_end calls) (is_recording s.decision) refl refl k off));
}

-- ---- several calls

append-nothing : {A : Type 0} (xs : List A) → xs ++ [] ≡ xs
append-nothing [] = refl
append-nothing (x ∷ xs) = ap (λ ys. x ∷ ys) (append-nothing xs)

-- A held span on which no call is made stays as it is.
pub does-none : (h : HeldSpan) → DoesAll [] h h
does-none h = record {
  context = refl;
  value = λ s calls e. e ∙ ap (held_span s) (sym (append-nothing calls));
}

-- The calls of two lists, made one list after the other, are the calls of the joined list.
pub does-both : (xs ys : List Call) (a b c : HeldSpan) → DoesAll xs a b → DoesAll ys b c
    → DoesAll (xs ++ ys) a c
does-both xs ys a b c f g = record {
  context = g.context ∙ f.context;
  value =
      λ s calls e.
      g.value s (calls ++ xs) (f.value s calls e) ∙ ap (held_span s) (append_assoc calls xs ys);
}

-- The calls of a list and one call after them are the calls of the longer list.
pub does-one-more : (xs : List Call) (call : Call) (a b c : HeldSpan) → DoesAll xs a b
    → Does call b c → DoesAll (xs ++ call ∷ []) a c
does-one-more xs call a b c f g =
    does-both xs (call ∷ []) a b c f (record { context = g.context; value = g.value })

-- ---- calls that a list asks for, made one by one

next-call : {X Y : Type 0} (f : Y → Call) (g : X → Y) (xs : List X) (i : ℕ) (d : X)
    → i < length xs →
    take (i + 1) (map f (map g xs)) ≡ take i (map f (map g xs)) ++ f (g (get_or xs i d)) ∷ []
next-call f g xs i d h =
    let calls = map f (map g xs) in
    let inner : i < length (map g xs) = subst (λ n. i < n) (sym (length-map xs g)) h in
    let outer : i < length calls = subst (λ n. i < n) (sym (length-map (map g xs) f)) inner in
    ap (λ n. take n calls) (add-one i) ∙ take-suc calls i (f (g d)) outer
    ∙ ap (λ c. take i calls ++ c ∷ [])
    (get_or-map f (map g xs) i (g d) (f (g d)) inner ∙ ap f (get_or-map g xs i d (g d) h))

-- After the call for the item at an index, the calls for one more item are made.
pub makes-at : {X Y : Type 0} (f : Y → Call) (g : X → Y) (xs : List X) (i : ℕ) (d : X)
    (a b c : HeldSpan)
    → i < length xs →
    DoesAll (take i (map f (map g xs))) a b → Does (f (g (get_or xs i d))) b c
    → DoesAll (take (i + 1) (map f (map g xs))) a c
makes-at f g xs i d a b c h all one =
    subst (λ more. DoesAll more a c) (sym (next-call f g xs i d h))
    (does-one-more (take i (map f (map g xs))) (f (g (get_or xs i d))) a b c all one)

-- After the call for the next item of a loop, the calls for one more item are made.
pub makes-next : {X Y : Type 0} (f : Y → Call) (g : X → Y) (xs : List X) (i : ℕ) (x : X)
    (a b c : HeldSpan)
    → i < length xs → x ≡ get_or xs i x →
    DoesAll (take i (map f (map g xs))) a b → Does (f (g x)) b c
    → DoesAll (take (i + 1) (map f (map g xs))) a c
makes-next f g xs i x a b c h e all one =
    makes-at f g xs i x a b c h all (subst (λ y. Does (f (g y)) b c) e one)

same-length : {X Y : Type 0} (f : Y → Call) (g : X → Y) (xs : List X)
    → length xs ≡ length (map f (map g xs))
same-length f g xs = sym (length-map (map g xs) f ∙ length-map xs g)

-- Once the index reaches the length of the list, the calls for all its items are made.
pub makes-all : {X Y : Type 0} (f : Y → Call) (g : X → Y) (xs : List X) (i : ℕ) (a b : HeldSpan)
    → length xs ≤ i →
    DoesAll (take i (map f (map g xs))) a b → DoesAll (map f (map g xs)) a b
makes-all f g xs i a b h all =
    subst (λ more. DoesAll more a b)
    (take_all i (map f (map g xs)) (subst (λ n. n ≤ i) (same-length f g xs) h)) all

-- A loop that stops at an index has made only the first calls.
pub makes-first : {X Y : Type 0} (f : Y → Call) (g : X → Y) (xs : List X) (i : ℕ) (a b c : HeldSpan)
    → i < length xs →
    DoesAll (take i (map f (map g xs))) a b → c ≡ b → DoesFirst (map f (map g xs)) a c
makes-first f g xs i a b c h all same = record {
  made = i;
  fewer = subst (λ n. i < n) (same-length f g xs) h;
  does = subst (λ x. DoesAll (take i (map f (map g xs))) a x) (sym same) all;
}

-- Calls count on a span on which they count after some calls.
pub counted-before : (a b : HeldSpan) → IgnoredUnlessRecording a b
    → is_recording_state b.state ≡ true → is_recording_state a.state ≡ true
counted-before a b same counts = by (is_recording_state a.state) refl
  where
    by : (v : Bool) → is_recording_state a.state ≡ v → is_recording_state a.state ≡ true
    by true e = e
    by false e = ap (λ (h : HeldSpan). is_recording_state h.state) (sym (same e)) ∙ counts

-- Two steps in a row leave a span that isn't recording as it is, if each of them does.
pub ignored-next : (a b c : HeldSpan) → IgnoredUnlessRecording a b → IgnoredUnlessRecording b c
    → IgnoredUnlessRecording a c
ignored-next a b c f g e = g (ap (λ (h : HeldSpan). is_recording_state h.state) (f e) ∙ e) ∙ f e

-- ---- answers

-- A fact that holds anyway holds in the case of an error.
pub on-err : {T E P : Type 0} (r : Result T E) → P → OnErr r P
on-err (Ok x) h = tt
on-err (Err e) h = h
