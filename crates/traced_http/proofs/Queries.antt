-- Queries whose parameters are joined one after the other, and paths with and without a query.
use Rattle.std.proofs.Common.{◌≡◌, refl, ℕ, ◌+◌, ◌<◌, List, [], ◌∷◌, ◌++◌, length, map, take}
use Rattle.std.proofs.Common.{flat_map, ap, ◌∙◌, Bor, codes, get_or, arith, false, true}
use Rattle.std.proofs.lemmas.List.{append-nil, map-append, take_more}
use Rattle.std.proofs.lemmas.List.Folds.{list_any_at, list_any_none}
use Rattle.std.proofs.lemmas.List.Sums.{fails_before_first, passes_at_first}
use Rattle.std.proofs.lemmas.Grind.{common_steps, flat_map-append}
use Rattle.std.specs.List.{after_first, before_first, list_any, position_or_len}
use Rattle.traced_http.specs.Queries.{is_question, redacted_path, redacted_query}

-- The list made of one more lent item is the list so far and what is made of this item.
pub joined_more : {Y : Type 0} (f : List ℕ → List Y) (xs : List (Bor (List ℕ))) (i : ℕ)
    (d : Bor (List ℕ))
    → i < length xs
    → flat_map f (map (λ x. x.now) (take (i + 1) xs))
    ≡ flat_map f (map (λ x. x.now) (take i xs)) ++ f (get_or xs i d).now
joined_more f xs i d inside =
    ap (λ items. flat_map f (map (λ (x : Bor (List ℕ)). x.now) items)) (take_more xs i d inside)
    ∙ ap (flat_map f) (map-append (λ (x : Bor (List ℕ)). x.now) (take i xs) (get_or xs i d ∷ []))
    ∙ flat_map-append f (map (λ (x : Bor (List ℕ)). x.now) (take i xs)) ((get_or xs i d).now ∷ [])
    ∙ ap (λ last. flat_map f (map (λ (x : Bor (List ℕ)). x.now) (take i xs)) ++ last)
    (append-nil (f (get_or xs i d).now))

-- A path with a `?` in it is what is before the first one, that, and the query after it.
pub with_query : (text path front query : List ℕ) → position_or_len is_question path < length path
    → front ≡ before_first is_question path → query ≡ after_first is_question path
    → text ++ front ++ codes "?" ++ redacted_query query ≡ text ++ redacted_path path
unfolding redacted_path
with_query text path front query inside before after =
    let has : list_any is_question path ≡ true =
    list_any_at is_question path (position_or_len is_question path) 0 inside
    (passes_at_first is_question path 0 inside) in
    rw (has, before, after) (grind (arith, common_steps))

-- A path without a `?` is as it is.
pub without_query : (path : List ℕ) → position_or_len is_question path ≡ length path
    → redacted_path path ≡ path
unfolding redacted_path
without_query path none =
    let fails : list_any is_question path ≡ false =
    list_any_none is_question path
    (λ k d inside. fails_before_first is_question path k d (omega (arith, none))) in
    rw fails refl
