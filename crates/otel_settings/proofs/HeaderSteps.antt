-- Pairs that are pushed as fields, one after the other.
use Rattle.std.proofs.Common.{◌≡◌, ℕ, ◌+◌, ◌<◌, ◌≤◌, List, [], ◌∷◌, ◌++◌, length, drop, get_or}
use Rattle.std.proofs.Common.{sym, ap, ◌∙◌, String, string_bytes, Some, None, append_assoc}
use Rattle.std.specs.Prelude.{Option, option_map}
use Rattle.std.specs.Option.{option_or}
use Rattle.std.proofs.lemmas.List.{drop_all, drop_more}
use Rattle.otlp_http.specs.Fields.{Field, refusal}
use Rattle.otlp_http.specs.declared.headers.HeaderFault.{HeaderFault}
use Rattle.otel_settings.specs.Headers.{Refusal, refusal_after, refused}
use Rattle.otel_settings.specs.ResourcePairs.{Pair, pairs_view}

-- What is left of a list of pairs, after so many, begins with the next one.
next : {A : Type 0} (raw : List (String A × String A)) (i : ℕ) (d : String A × String A)
    (name value : List ℕ) → i < length raw → name ≡ string_bytes (get_or raw i d).0
    → value ≡ string_bytes (get_or raw i d).1
    → pairs_view (drop i raw) ≡ (name, value) ∷ pairs_view (drop (i + 1) raw)
next raw i d name value inside name_is value_is =
    ap pairs_view (drop_more raw i d inside)
    ∙ ap (λ n. (n, string_bytes (get_or raw i d).1) ∷ pairs_view (drop (i + 1) raw)) (sym name_is)
    ∙ ap (λ v. (name, v) ∷ pairs_view (drop (i + 1) raw)) (sym value_is)

-- A pair that is taken leaves the refusal to the pairs after it.
goes_on : (fields : List Field) (pair : Pair) (pairs : List Pair) → refusal fields pair ≡ None
    → refusal_after fields (pair ∷ pairs) ≡ refusal_after (fields ++ pair ∷ []) pairs
unfolding refusal_after
goes_on fields pair pairs none =
    ap (λ (r : Option HeaderFault).
    option_or (option_map (refused pair) r) (refusal_after (fields ++ pair ∷ []) pairs)) none

-- A pair that isn't taken is the refusal.
ends : (fields : List Field) (pair : Pair) (pairs : List Pair) (fault : HeaderFault)
    → refusal fields pair ≡ Some fault
    → refusal_after fields (pair ∷ pairs) ≡ Some (refused pair fault)
unfolding refusal_after
ends fields pair pairs fault some =
    ap (λ (r : Option HeaderFault).
    option_or (option_map (refused pair) r) (refusal_after (fields ++ pair ∷ []) pairs)) some

-- what is left to push is refused as all is, and comes after what is pushed
abbrev pub Left : {A : Type 0} → List Field → List (String A × String A) → List Field → ℕ → Type 0
Left initial raw fields i =
    (refusal_after initial (pairs_view raw) ≡ refusal_after fields (pairs_view (drop i raw)))
    × (fields ++ pairs_view (drop i raw) ≡ initial ++ pairs_view raw)

-- After one more pair is pushed, less is left.
pub pushed_one : {A : Type 0} (initial : List Field) (raw : List (String A × String A))
    (before after : List Field) (i : ℕ) (d : String A × String A) (name value : List ℕ)
    → i < length raw → name ≡ string_bytes (get_or raw i d).0
    → value ≡ string_bytes (get_or raw i d).1 → refusal before (name, value) ≡ None
    → after ≡ before ++ (name, value) ∷ [] → Left initial raw before i
    → Left initial raw after (i + 1)
pushed_one initial raw before after i d name value inside name_is value_is none after_is left =
    let rest = pairs_view (drop (i + 1) raw) in
    let here = next raw i d name value inside name_is value_is in (
      left.0 ∙ ap (refusal_after before) here ∙ goes_on before (name, value) rest none
          ∙ ap (λ f. refusal_after f rest) (sym after_is),
      ap (λ f. f ++ rest) after_is ∙ append_assoc before ((name, value) ∷ []) rest
          ∙ ap (λ l. before ++ l) (sym here) ∙ left.1,
    )

-- Where a pair isn't taken, it is the refusal of all.
pub refused_one : {A : Type 0} (initial : List Field) (raw : List (String A × String A))
    (fields : List Field) (i : ℕ) (d : String A × String A) (name value copy : List ℕ)
    (fault : HeaderFault)
    → i < length raw → name ≡ string_bytes (get_or raw i d).0
    → value ≡ string_bytes (get_or raw i d).1 → refusal fields (name, value) ≡ Some fault
    → copy ≡ name → Left initial raw fields i
    → Some (record { name = copy; cause = Some fault }) ≡ refusal_after initial (pairs_view raw)
refused_one initial raw fields i d name value copy fault inside name_is value_is some copy_is left =
    let make : List ℕ → Option Refusal = λ n. Some (record { name = n; cause = Some fault }) in
    ap make copy_is
    ∙ sym (left.0 ∙ ap (refusal_after fields) (next raw i d name value inside name_is value_is)
    ∙ ends fields (name, value) (pairs_view (drop (i + 1) raw)) fault some)

-- Once all pairs are pushed, none is refused.
pub none_left : {A : Type 0} (initial : List Field) (raw : List (String A × String A))
    (fields : List Field) (i : ℕ) → length raw ≤ i → Left initial raw fields i
    → None ≡ refusal_after initial (pairs_view raw)
unfolding refusal_after
none_left initial raw fields i all left =
    sym (left.0 ∙ ap (λ l. refusal_after fields (pairs_view l)) (drop_all i raw all))
