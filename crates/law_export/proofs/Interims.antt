-- Interim heads that were skipped.
use Rattle.std.proofs.Common.{◌≡◌, ℕ, ◌<◌, List, [], ◌∷◌, ◌++◌, length, refl, sym, ◌∙◌, arith}
use Rattle.std.proofs.Common.{append_assoc}
use Rattle.std.specs.Prelude.{All}
use Rattle.std.specs.List.{flat_map}
use Rattle.std.proofs.lemmas.List.Elements.{All-head, All-tail}
use Rattle.httparse.specs.Grammar.{ResponseHead, print_response}
use Rattle.httparse.proofs.GrammarLemmas.{response_unique}
use Rattle.http_wire.specs.declared.limits.HeadLimits.{HeadLimits}
use Rattle.otlp_http.specs.Heads.{IsInterim}

-- an interim head is here
pub record Stands (limits : HeadLimits) (bytes : List ℕ) : Type 0 where
  pub head : ResponseHead
  pub rest : List ℕ
  pub interim : IsInterim limits head
  pub whole : bytes ≡ print_response head ++ rest

-- Two rows of interim heads at the front of the same bytes: they are one, or one begins the other.
pub data Aligned (limits : HeadLimits) (xs ys : List ResponseHead)
    (bytes others : List ℕ) : Type 0 where
  same : xs ≡ ys → bytes ≡ others → Aligned limits xs ys bytes others
  first : length xs < length ys → Stands limits bytes → Aligned limits xs ys bytes others
  second : length ys < length xs → Stands limits others → Aligned limits xs ys bytes others

one_more : (limits : HeadLimits) (x y : ResponseHead) (xs ys : List ResponseHead)
    (bytes others : List ℕ)
    → x ≡ y
    → Aligned limits xs ys bytes others → Aligned limits (x ∷ xs) (y ∷ ys) bytes others
one_more limits x y xs ys bytes others is (same e s) =
    let longer : x ∷ xs ≡ y ∷ ys = cc in same longer s
one_more limits x y xs ys bytes others is (first l s) = first (omega (arith, l)) s
one_more limits x y xs ys bytes others is (second l s) = second (omega (arith, l)) s

-- Two rows of interim heads at the front of the same bytes are one, or an interim head follows the
-- shorter one.
pub align : (limits : HeadLimits) (xs ys : List ResponseHead) (bytes others : List ℕ)
    → All (IsInterim limits) xs → All (IsInterim limits) ys
    → flat_map print_response xs ++ bytes ≡ flat_map print_response ys ++ others
    → Aligned limits xs ys bytes others
align limits [] [] bytes others all each e = same refl e
align limits [] (y ∷ ys) bytes others all each e = first (omega arith) (record {
  head = y;
  rest = flat_map print_response ys ++ others;
  interim = All-head (IsInterim limits) y ys each;
  whole = e ∙ append_assoc (print_response y) (flat_map print_response ys) others;
})
align limits (x ∷ xs) [] bytes others all each e = second (omega arith) (record {
  head = x;
  rest = flat_map print_response xs ++ bytes;
  interim = All-head (IsInterim limits) x xs all;
  whole = sym e ∙ append_assoc (print_response x) (flat_map print_response xs) bytes;
})
align limits (x ∷ xs) (y ∷ ys) bytes others all each e =
    let left = append_assoc (print_response x) (flat_map print_response xs) bytes in
    let right = append_assoc (print_response y) (flat_map print_response ys) others in
    let valid = (All-head (IsInterim limits) x xs all).0.valid in
    let other_valid = (All-head (IsInterim limits) y ys each).0.valid in
    let unique = response_unique _ x y _ _ (valid, refl) (other_valid, sym left ∙ e ∙ right) in
    one_more limits x y xs ys bytes others unique.0
    (align limits xs ys bytes others (All-tail (IsInterim limits) x xs all)
    (All-tail (IsInterim limits) y ys each) unique.1)
