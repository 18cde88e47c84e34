-- The spans of a run that are moved, and the names that go onto a ledger, the first one first.
use Rattle.std.proofs.Common.{◌≡◌, sym, ap, ◌∙◌, ℕ, zero, suc, ◌+◌, List, [], ◌∷◌}
use Rattle.std.proofs.Common.{◌++◌, drop, take, append_assoc, Some, add-one}
use Rattle.std.proofs.lemmas.List.{reverse-append}
use Rattle.std.specs.Prelude.{map, reverse, slice_get}

-- One more span that is named moves from the spans that are left to the names.
pub names-first : {X Y : Type 0} (f : X → Y) (items rest : List X) (x : X) (below above : List Y)
    → items ≡ x ∷ rest → above ≡ f x ∷ below
    → reverse above ++ map f rest ≡ reverse below ++ map f items
names-first f items rest x below above e a =
    ap (λ ys. reverse ys ++ map f rest) a
    ∙ ap (λ ys. ys ++ map f rest) (reverse-append (f x ∷ []) below)
    ∙ append_assoc (reverse below) (f x ∷ []) (map f rest)
    ∙ ap (λ zs. reverse below ++ map f zs) (sym e)

-- the first element of those that are left after the first ones
next-taken : {X : Type 0} (items : List X) (count : ℕ) (x : X)
    → slice_get (drop count items) 0 ≡ Some x → take (suc count) items ≡ take count items ++ x ∷ []
next-taken [] zero x e = cc
next-taken [] (suc count) x e = cc
next-taken (y ∷ ys) zero x e = cc
next-taken (y ∷ ys) (suc count) x e = ap (λ zs. y ∷ zs) (next-taken ys count x e)

-- One more span that is moved comes after those that were moved before.
pub one-moved : {X : Type 0} (before items : List X) (count : ℕ) (x : X)
    → slice_get (drop count items) 0 ≡ Some x
    → (before ++ take count items) ++ x ∷ [] ≡ before ++ take (count + 1) items
one-moved before items count x e =
    append_assoc before (take count items) (x ∷ [])
    ∙ ap (λ zs. before ++ zs)
    (sym (next-taken items count x e) ∙ ap (λ n. take n items) (sym (add-one count)))
