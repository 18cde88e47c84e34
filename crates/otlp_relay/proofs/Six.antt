-- A list of six whose last one is taken out again and again.
use Rattle.std.proofs.Common.{◌≡◌, refl, sym, ap, ◌∙◌, ℕ, suc, List, [], ◌∷◌, ◌++◌}
use Rattle.std.proofs.Common.{length, take, drop, get_or, arith, append-nil}
use Rattle.std.proofs.Math.Seq.{take-suc}
use Rattle.std.proofs.lemmas.List.{take_all, drop_all, length-take-le}
use Rattle.std.specs.Prelude.{remove}

-- The last one of a list is taken out: the list is what is left, and then that one.
record LastOut {X : Type 0} (xs ys : List X) (x : X) (k : ℕ) : Type 0 where
  split : xs ≡ ys ++ (x ∷ [])
  left : length ys ≡ k

last-out : {X : Type 0} (xs ys : List X) (x : X) (k : ℕ) → length xs ≡ suc k
    → x ≡ get_or xs k x → ys ≡ remove xs k → LastOut xs ys x k
last-out xs ys x k len at rest =
    let none : drop (suc k) xs ≡ [] = drop_all (suc k) xs (omega (arith, len)) in
    let first : ys ≡ take k xs =
    rest ∙ ap (λ l. take k xs ++ l) none ∙ append-nil (take k xs) in
    let size : length (take k xs) ≡ k = length-take-le k xs (omega (arith, len)) in
    record {
      split = sym (take_all (suc k) xs (omega (arith, len)))
          ∙ take-suc xs k x (omega (arith, len))
          ∙ ap (λ y. take k xs ++ (y ∷ [])) (sym at)
          ∙ ap (λ l. l ++ (x ∷ [])) (sym first);
      left = ap length first ∙ size;
    }

-- A list of six, whose last one is taken out until none is left.
pub six : {X : Type 0} (xs l5 l4 l3 l2 l1 : List X) (a b c d e f : X) → length xs ≡ 6
    → f ≡ get_or xs 5 f → l5 ≡ remove xs 5
    → e ≡ get_or l5 4 e → l4 ≡ remove l5 4
    → d ≡ get_or l4 3 d → l3 ≡ remove l4 3
    → c ≡ get_or l3 2 c → l2 ≡ remove l3 2
    → b ≡ get_or l2 1 b → l1 ≡ remove l2 1
    → a ≡ get_or l1 0 a → xs ≡ a ∷ b ∷ c ∷ d ∷ e ∷ f ∷ []
six xs l5 l4 l3 l2 l1 a b c d e f len at5 to5 at4 to4 at3 to3 at2 to2 at1 to1 at0 =
    let p5 = last-out xs l5 f 5 len at5 to5 in
    let p4 = last-out l5 l4 e 4 p5.left at4 to4 in
    let p3 = last-out l4 l3 d 3 p4.left at3 to3 in
    let p2 = last-out l3 l2 c 2 p3.left at2 to2 in
    let p1 = last-out l2 l1 b 1 p2.left at1 to1 in
    let p0 = last-out l1 (remove l1 0) a 0 p1.left at0 refl in
    let none : remove l1 0 ≡ [] = nothing (remove l1 0) p0.left in
    p5.split ∙ ap (λ l. l ++ (f ∷ [])) (p4.split ∙ ap (λ l. l ++ (e ∷ [])) (p3.split
    ∙ ap (λ l. l ++ (d ∷ [])) (p2.split ∙ ap (λ l. l ++ (c ∷ [])) (p1.split
    ∙ ap (λ l. l ++ (b ∷ [])) (p0.split ∙ ap (λ l. l ++ (a ∷ [])) none)))))
  where
    nothing : {X : Type 0} (xs : List X) → length xs ≡ 0 → xs ≡ []
    nothing [] len = refl
    nothing (x ∷ xs) len = absurd (omega (arith, len))
