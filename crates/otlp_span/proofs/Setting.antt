-- Several pairs, set one after the other.
use Rattle.std.proofs.Common.{◌≡◌, sym, ap, subst, ◌∙◌, List, [], ◌∷◌, ◌++◌, append_assoc, String}
use Rattle.std.proofs.lemmas.List.{map-append}
use Rattle.model_span.specs.Attributes.{Attribute, AttributeList, Kept, Limits, SetsPair}
use Rattle.model_span.specs.Attributes.{attribute_list, attributes}
use Rattle.otlp_value.specs.declared.Value.{Value}
use Rattle.otlp_value.specs.Value.{attribute_view, attributes_view}
use Rattle.otlp_span.specs.Pairs.{SetsPairs}

-- Pairs that are set, and then others, are set together.
pub sets-more : {xs ys : List Attribute} {a b c : AttributeList} → SetsPairs xs a b
    → SetsPairs ys b c → SetsPairs (xs ++ ys) a c
sets-more {xs = xs} {ys = ys} {a = a} {b = b} {c = c} f g = record {
  limits = g.limits ∙ f.limits;
  value = λ pairs is.
      let then : c.kept ≡ attributes b.limits ((pairs ++ xs) ++ ys) =
      g.value (pairs ++ xs)
      (f.value pairs is ∙ ap (λ l. attributes l (pairs ++ xs)) (sym f.limits)) in
      then ∙ ap (λ l. attributes l ((pairs ++ xs) ++ ys)) f.limits
      ∙ ap (attributes a.limits) (append_assoc pairs xs ys);
}

-- One pair that is set is a list of one pair that is set.
pub sets-one : (p : Attribute) (a b : AttributeList) → SetsPair p a b → SetsPairs (p ∷ []) a b
sets-one p a b s = record { limits = s.limits; value = s.value }

-- The pairs that were set, and one more after them, are set together.
pub sets-next : {A : Type 0} (before : List (String A × Value A)) (pair : String A × Value A)
    (a b c : AttributeList)
    → SetsPairs (attributes_view before) a b → SetsPair (attribute_view pair) b c
    → SetsPairs (attributes_view (before ++ pair ∷ [])) a c
sets-next before pair a b c f s =
    subst (λ more. SetsPairs more a c) (sym (map-append attribute_view before (pair ∷ [])))
    (sets-more f (sets-one (attribute_view pair) b c s))

-- One of the pairs to come is now one of those that came.
pub moves-one : {X : Type 0} (all before rest after : List X) (x : X) → all ≡ before ++ rest
    → rest ≡ x ∷ after → all ≡ (before ++ x ∷ []) ++ after
moves-one all before rest after x p q =
    p ∙ ap (λ r. before ++ r) q ∙ sym (append_assoc before (x ∷ []) after)

-- Set in an empty list, they are its pairs.
pub sets-first : (limits : Limits) (more : List Attribute) (a b : AttributeList)
    → a ≡ attribute_list limits [] → SetsPairs more a b → b ≡ attribute_list limits more
sets-first limits more a b is s =
    let make : Limits → Kept Attribute → AttributeList = λ l k. record { limits = l; kept = k } in
    let under : a.limits ≡ limits = ap (λ (list : AttributeList). list.limits) is in
    let none : a.kept ≡ attributes a.limits [] =
    ap (λ (list : AttributeList). list.kept) is ∙ ap (λ l. attributes l []) (sym under) in
    ap (λ l. make l b.kept) (s.limits ∙ under)
    ∙ ap (make limits) (s.value [] none ∙ ap (λ l. attributes l more) under)
