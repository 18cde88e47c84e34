-- What is read of a query, pair after pair.
use Rattle.std.proofs.Common.{◌≡◌, ap, ◌∙◌, sym, subst, ℕ, List, ◌∷◌, map, Err, IfErr, Result}
use Rattle.std.specs.List.{AllByRecursion}
use Rattle.std.specs.Str.Lossy.{utf8_lossy}
use Rattle.form_urlencoded.specs.Form.{decode}
use Rattle.trace_lines.specs.declared.filter.FilterFault.{FilterFault}
use Rattle.trace_lines.specs.declared.filter.FilterFault.TheVariants.{Least}
use Rattle.trace_lines.specs.Queries.{IsRightPair, IsRightQuery, decoded}

-- the pair that is next, decoded, and those that are left
pub pair_first : (before after : List (List ℕ × List ℕ)) (n v name value : List ℕ)
    → before ≡ (n, v) ∷ after
    → name ≡ utf8_lossy (decode n) → value ≡ utf8_lossy (decode v)
    → map decoded before ≡ (name, value) ∷ map decoded after
pair_first before after n v name value is name_is value_is =
    ap (map decoded) is
    ∙ ap (λ p. p ∷ map decoded after)
    (sym (ap (λ x. (x, value)) name_is ∙ ap (λ y. (utf8_lossy (decode n), y)) value_is))

-- a pair that can't be read is one of the query's
pub wrong_pair : (query : List ℕ) (before after : List (List ℕ × List ℕ)) (n v name value : List ℕ)
    → before ≡ (n, v) ∷ after
    → name ≡ utf8_lossy (decode n) → value ≡ utf8_lossy (decode v)
    → (IsRightQuery query → AllByRecursion IsRightPair (map decoded before))
    → ¬ (IsRightPair (name, value)) → ¬ (IsRightQuery query)
wrong_pair query before after n v name value is name_is value_is left wrong =
    λ right. wrong (subst (AllByRecursion IsRightPair)
    (pair_first before after n v name value is name_is value_is) (left right)).0

-- it is said
pub wrong_query : {T : Type 0} (query : List ℕ) (fault : FilterFault) (r : Result T FilterFault)
    → r ≡ Err fault → (fault ≡ Least → ¬ (IsRightQuery query))
    → IfErr r (λ e. e ≡ Least → ¬ (IsRightQuery query))
wrong_query query fault r is wrong =
    subst (λ x. IfErr x (λ e. e ≡ Least → ¬ (IsRightQuery query))) (sym is) wrong
