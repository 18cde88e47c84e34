-- What values are in JSON, case by case.
use Rattle.std.proofs.Common.{◌≡◌, refl, sym, ap, ◌∙◌, List, [], ◌∷◌, ◌++◌, map, codes, String, Vec}
use Rattle.std.proofs.Common.{rules, length, ◌==◌, true, false, arith}
use Rattle.std.specs.Prelude.{OnOk, Result, Ok, Err}
use Rattle.std.specs.List.{flat_map}
use Rattle.std.proofs.lemmas.Bool.{eqb-true}
use Rattle.std.proofs.lemmas.List.Folds.{flat_map-map}
use Rattle.otlp_read.specs.declared.any_value.AnyValue.{AnyValue, Array, Pairs, Text, the_lemmas}
use Rattle.std.specs.String.{string_bytes}
use Rattle.otlp_json.specs.Seen.{Seen, braces, object_member, seen, text_member}
use Rattle.view_json.specs.Values.{member_seen, nested, pair_seen, pair_step, value_member}
use Rattle.view_json.specs.Values.{value_seen}

-- A text is seen as the member stringValue.
pub text_seen : {A : Type 0} (t : String A)
    → member_seen (Text t) ≡ seen (text_member (codes "stringValue") (string_bytes t))
text_seen t = search (rules, the_lemmas)

array_step : {A : Type 0} (v : Vec (AnyValue A) A)
    → member_seen (Array v)
    ≡ nested (codes "arrayValue") (flat_map braces (map member_seen v.items))
array_step v = search (rules, the_lemmas)

-- An array is seen as its values, one after another, in arrayValue.
pub array_seen : {A : Type 0} (v : Vec (AnyValue A) A)
    → member_seen (Array v) ≡ nested (codes "arrayValue") (flat_map value_seen v.items)
array_seen v =
    array_step v ∙ ap (nested (codes "arrayValue")) (flat_map-map braces member_seen v.items)

pairs_step : {A : Type 0} (v : Vec (String A × AnyValue A) A)
    → member_seen (Pairs v)
    ≡ nested (codes "kvlistValue") (flat_map pair_step (map (λ p. (p.0, member_seen p.1)) v.items))
pairs_step v = search (rules, the_lemmas)

-- A list of pairs is seen as its pairs, one after another, in kvlistValue.
pub pairs_seen : {A : Type 0} (v : Vec (String A × AnyValue A) A)
    → member_seen (Pairs v) ≡ nested (codes "kvlistValue") (flat_map pair_seen v.items)
pairs_seen {A} v =
    pairs_step v
    ∙ ap (nested (codes "kvlistValue"))
    (flat_map-map (pair_step {A = A}) (λ p. (p.0, member_seen p.1)) v.items)

-- what a call wrote of a value that is one of these
pub told : {A T E : Type 0} (r : Result T E) (v which : AnyValue A) (old new word : List Seen)
    → v ≡ which → member_seen which ≡ word
    → OnOk r (new ≡ old ++ word) → OnOk r (new ≡ old ++ member_seen v)
told (Ok x) v which old new word is says more =
    more ∙ ap (λ l. old ++ l) (sym (ap member_seen is ∙ says))
told (Err e) v which old new word is says more = tt

-- A pair whose value is empty has no member for it.
pub left_out : (member : List Seen) → (length member == 0) ≡ true → [] ≡ value_member member
left_out [] h = refl
left_out (first ∷ others) h = absurd (omega (arith, eqb-true (length (first ∷ others)) 0 h))

-- A pair with another value has it.
pub given : (member : List Seen) → (length member == 0) ≡ false
    → object_member (codes "value") member ≡ value_member member
given [] h = cc
given (first ∷ others) h = refl
