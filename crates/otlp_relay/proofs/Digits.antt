-- The digits of bytes one after another.
use Rattle.std.proofs.Common.{◌≡◌, refl, ap, sym, subst, ◌∙◌, ℕ, suc, List, [], ◌∷◌, ◌++◌, ◌+◌, ◌<◌}
use Rattle.std.proofs.Common.{length}
use Rattle.std.proofs.Common.{arith, take, Option, get_or, ◌/◌, ◌%◌}
use Rattle.std.proofs.Math.Seq.{take-suc}
use Rattle.std.proofs.KnownBytes.{Appends-nil, Appends-trans}
use Rattle.std.specs.Prelude.{slice_index}
use Rattle.std.specs.Io.KnownBytes.{Appends}
use Rattle.hex.specs.Hex.{encode_lower, encode_with, lower_digits}

-- The digits of two texts are those of the first one and then those of the second one.
encode-append : (t xs ys : List ℕ) → encode_with t (xs ++ ys) ≡ encode_with t xs ++ encode_with t ys
unfolding encode_with
encode-append t [] ys = refl
encode-append t (x ∷ xs) ys =
    ap (λ l. slice_index t (x / 16) ∷ slice_index t (x % 16) ∷ l) (encode-append t xs ys)

-- The digits of no byte went out.
pub none-yet : (old : Option (List ℕ)) (xs : List ℕ) → Appends old old (encode_lower (take 0 xs))
unfolding encode_with
none-yet old xs = Appends-nil old

-- Where the digits of the first bytes went out, and then those of one more, those of all of them
-- went out.
pub one-more : (old mid new : Option (List ℕ)) (xs : List ℕ) (k d : ℕ) → k < length xs
    → Appends old mid (encode_lower (take k xs))
    → Appends mid new (encode_lower (get_or xs k d ∷ []))
    → Appends old new (encode_lower (take (k + 1) xs))
one-more old mid new xs k d less p q =
    let next : k + 1 ≡ suc k = omega arith in
    let same = ap (λ n. encode_lower (take n xs)) next ∙ ap encode_lower (take-suc xs k d less)
    ∙ encode-append lower_digits (take k xs) (get_or xs k d ∷ []) in
    subst (Appends old new) (sym same)
    (Appends-trans old mid new (encode_lower (take k xs)) (encode_lower (get_or xs k d ∷ [])) p q)
