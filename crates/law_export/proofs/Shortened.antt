-- What is left of a value whose texts are cut.
use Rattle.std.proofs.Common.{◌≡◌, refl, ap, ap₂, ℕ, List, [], ◌∷◌, map, take, true, Option, None}
use Rattle.std.proofs.Common.{Some, encode_utf8_all}
use Rattle.std.specs.List.{All, AllByRecursion}
use Rattle.std.specs.Str.{all_scalars}
use Rattle.std.proofs.lemmas.List.{map-id}
use Rattle.std.proofs.lemmas.List.Elements.{recursion_from_All}
use Rattle.std.proofs.lemmas.Str.{chars-encodes}
use Rattle.model_span.specs.Attributes.{Value, text, bool, int, texts, bools, ints, first_chars}
use Rattle.model_span.specs.Attributes.{cut}
use Rattle.law_export.specs.Keeping.{HasNoText}

first-of : (n : ℕ) (cs : List ℕ) → all_scalars cs ≡ true
    → first_chars (Some n) (encode_utf8_all cs) ≡ encode_utf8_all (take n cs)
first-of n cs h = ap (λ l. encode_utf8_all (take n l)) (chars-encodes cs h)

-- A text that is cut has its first characters, as many as the limit says.
pub text-cut : (n : ℕ) (cs : List ℕ) → all_scalars cs ≡ true
    → cut (Some n) (text (encode_utf8_all cs)) ≡ text (encode_utf8_all (take n cs))
text-cut n cs h = ap text (first-of n cs h)

firsts-of : (n : ℕ) (all : List (List ℕ)) → AllByRecursion (λ cs. all_scalars cs ≡ true) all
    → map (first_chars (Some n)) (map encode_utf8_all all)
    ≡ map (λ cs. encode_utf8_all (take n cs)) all
firsts-of n [] h = refl
firsts-of n (cs ∷ all) h = ap₂ (λ t ts. t ∷ ts) (first-of n cs h.0) (firsts-of n all h.1)

-- Each text of an array that is cut has its first characters, as many as the limit says.
pub texts-cut : (n : ℕ) (all : List (List ℕ)) → All (λ cs. all_scalars cs ≡ true) all
    → cut (Some n) (texts (map encode_utf8_all all))
    ≡ texts (map (λ cs. encode_utf8_all (take n cs)) all)
texts-cut n all h =
    ap texts (firsts-of n all (recursion_from_All (λ cs. all_scalars cs ≡ true) all h))

-- A value that has no text stays as it is where texts are cut.
pub others-stay : (limit : Option ℕ) (v : Value) → HasNoText v → cut limit v ≡ v
others-stay limit (text t) h = absurd h
others-stay limit (bool b) h = refl
others-stay limit (int i) h = refl
others-stay limit (texts ts) h = absurd h
others-stay limit (bools bs) h = refl
others-stay limit (ints is) h = refl

-- A value stays as it is where texts have no limit.
pub none-cut : (v : Value) → cut None v ≡ v
none-cut (text t) = refl
none-cut (bool b) = refl
none-cut (int i) = refl
none-cut (texts ts) = ap texts (map-id ts)
none-cut (bools bs) = refl
none-cut (ints is) = refl
