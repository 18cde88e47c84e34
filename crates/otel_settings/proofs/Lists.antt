-- Pairs that are set in a list, one after the other.
use Rattle.std.proofs.Common.{◌≡◌, ℕ, ◌+◌, ◌<◌, List, [], ◌∷◌, ◌++◌, length, map, take, get_or, sym}
use Rattle.std.proofs.Common.{ap, subst, ◌∙◌, String, string_bytes}
use Rattle.std.proofs.lemmas.List.{map-append, take_more}
use Rattle.model_span.specs.Attributes.{Attribute, AttributeList, Kept, Limits, SetsPair}
use Rattle.model_span.specs.Attributes.{attribute_list, attributes}
use Rattle.otel_settings.specs.ResourcePairs.{pair_view, pairs_view}
use Rattle.otel_settings.specs.Attributes.{attribute_of, no_limits}

-- The list of some attributes, on which one more is set, is the list of all of them.
pub set_more : (limits : Limits) (some : List Attribute) (p : Attribute) (a b : AttributeList)
    → a ≡ attribute_list limits some → SetsPair p a b
    → b ≡ attribute_list limits (some ++ p ∷ [])
set_more limits some p a b is s =
    let make : Limits → Kept Attribute → AttributeList = λ l k. record { limits = l; kept = k } in
    let under : a.limits ≡ limits = ap (λ (list : AttributeList). list.limits) is in
    let kept : a.kept ≡ attributes a.limits some =
    ap (λ (list : AttributeList). list.kept) is ∙ ap (λ l. attributes l some) (sym under) in
    ap (λ l. make l b.kept) (s.limits ∙ under)
    ∙ ap (make limits) (s.value some kept ∙ ap (λ l. attributes l (some ++ p ∷ [])) under)

-- the pairs so far, and the next one
next : {A : Type 0} (raw : List (String A × String A)) (i : ℕ) (d : String A × String A)
    → i < length raw
    → map attribute_of (pairs_view (take (i + 1) raw))
    ≡ map attribute_of (pairs_view (take i raw)) ++ attribute_of (pair_view (get_or raw i d)) ∷ []
next raw i d inside =
    ap (λ ps. map attribute_of (pairs_view ps)) (take_more raw i d inside)
    ∙ ap (map attribute_of) (map-append pair_view (take i raw) (get_or raw i d ∷ []))
    ∙ map-append attribute_of (pairs_view (take i raw)) (pair_view (get_or raw i d) ∷ [])

-- After the next pair is set, the list has the attributes of all pairs so far.
pub goes_on : {A : Type 0} (raw : List (String A × String A)) (i : ℕ) (d : String A × String A)
    (key text : List ℕ) (a b : AttributeList)
    → i < length raw
    → a ≡ attribute_list no_limits (map attribute_of (pairs_view (take i raw)))
    → key ≡ string_bytes (get_or raw i d).0
    → text ≡ string_bytes (get_or raw i d).1
    → SetsPair (attribute_of (key, text)) a b
    → b ≡ attribute_list no_limits (map attribute_of (pairs_view (take (i + 1) raw)))
goes_on raw i d key text a b inside is key_is text_is s =
    let one : attribute_of (key, text) ≡ attribute_of (pair_view (get_or raw i d)) =
    ap (λ k. attribute_of (k, text)) key_is
    ∙ ap (λ t. attribute_of (string_bytes (get_or raw i d).0, t)) text_is in
    let set : SetsPair (attribute_of (pair_view (get_or raw i d))) a b =
    subst (λ p. SetsPair p a b) one s in
    subst (λ all. b ≡ attribute_list no_limits all) (sym (next raw i d inside))
    (set_more no_limits (map attribute_of (pairs_view (take i raw)))
    (attribute_of (pair_view (get_or raw i d))) a b is set)
