-- Lines of bodies, and their bytes put one after the other.
use Rattle.std.proofs.Common.{◌≡◌, sym, ap, subst, ◌∙◌, ℕ, zero, suc, ◌+◌, ◌<◌, ◌≤◌, max, List, []}
use Rattle.std.proofs.Common.{◌∷◌, ◌++◌, length, take, get_or, arith, append-nil, length-append}
use Rattle.std.proofs.Common.{le_of_suc-le-suc, drop, append_assoc, add-one}
use Rattle.std.specs.Prelude.{slice_index_or}
use Rattle.std.specs.declared.vec.Vec.{Vec}
use Rattle.std.proofs.lemmas.List.{take_more, length-map, get_or-map, map-append}
use Rattle.std.proofs.lemmas.List.Concat.{flat_map-append}
use Rattle.std.proofs.lemmas.List.Sums.{sum_by-cons, sum_by_push}
use Rattle.model_body.specs.Histories.{joined}
use Rattle.model_body.specs.Desks.{body_size, memory_of}
use Rattle.model_body.proofs.Sound.{memory-dropped}
use Rattle.relay_queue.specs.Bodies.{bodies_view}

-- ---- bytes

joined-push : (bodies : List (List ℕ)) (body : List ℕ)
    → joined (bodies ++ body ∷ []) ≡ joined bodies ++ body
joined-push bodies body =
    flat_map-append (λ (x : List ℕ). x) bodies (body ∷ [])
    ∙ ap (λ l. joined bodies ++ l) (append-nil body)

joined-within : (bodies : List (List ℕ)) → length (joined bodies) ≤ memory_of bodies
joined-within [] = omega arith
joined-within (body ∷ bodies) =
    let bytes : length (joined (body ∷ bodies)) ≡ length body + length (joined bodies) =
    length-append body (joined bodies) in
    omega (arith, bytes, sum_by-cons body_size body bodies, joined-within bodies)

-- First bodies have no more bytes than all take memory.
pub joined-fits : (n : ℕ) (bodies : List (List ℕ))
    → length (joined (take n bodies)) ≤ memory_of bodies
joined-fits n bodies = omega (arith, joined-within (take n bodies), memory-dropped n bodies)

-- More bodies have no fewer bytes.
pub joined-rises : (bodies : List (List ℕ)) (i j : ℕ) → i ≤ j
    → length (joined (take i bodies)) ≤ length (joined (take j bodies))
joined-rises [] zero j h = omega arith
joined-rises [] (suc i) zero h = omega arith
joined-rises [] (suc i) (suc j) h = omega arith
joined-rises (body ∷ bodies) zero j h = omega arith
joined-rises (body ∷ bodies) (suc i) zero h = absurd (omega (arith, h))
joined-rises (body ∷ bodies) (suc i) (suc j) h =
    let left : length (joined (take (suc i) (body ∷ bodies)))
    ≡ length body + length (joined (take i bodies)) =
    length-append body (joined (take i bodies)) in
    let right : length (joined (take (suc j) (body ∷ bodies)))
    ≡ length body + length (joined (take j bodies)) =
    length-append body (joined (take j bodies)) in
    omega (arith, left, right, joined-rises bodies i j (le_of_suc-le-suc h))

-- ---- as many as fit, and at least one

-- As many as fit have no more bytes than the limit, unless that is a single body.
pub fit-within : (bodies : List (List ℕ)) (limit n r : ℕ) → r ≡ max n 1
    → length (joined (take n bodies)) ≤ limit → 1 < r → length (joined (take r bodies)) ≤ limit
fit-within bodies limit n r e h k =
    let same : n ≡ r = omega (arith, e, k) in
    subst (λ m. length (joined (take m bodies)) ≤ limit) same h

-- With one body more they have more bytes than the limit.
pub fit-greatest : (bodies : List (List ℕ)) (len limit n r : ℕ) → r ≡ max n 1
    → (n < len → limit < length (joined (take (n + 1) bodies))) → r < len
    → limit < length (joined (take (r + 1) bodies))
fit-greatest bodies len limit zero r e h k =
    let one : r ≡ 1 = omega (arith, e) in
    let first : limit < length (joined (take 1 bodies)) = h (omega (arith, k)) in
    subst (λ m. limit < length (joined (take (m + 1) bodies))) (sym one)
    (omega (arith, first, joined-rises bodies 1 2 (omega arith)))
fit-greatest bodies len limit (suc n) r e h k =
    let same : suc n ≡ r = omega (arith, e) in
    subst (λ m. limit < length (joined (take (m + 1) bodies))) same
    (h (omega (arith, same, k)))

-- ---- lines

-- A body after others.
pub view_push : {A : Type 0} (bodies : List (Vec ℕ A)) (body : Vec ℕ A)
    → bodies_view (bodies ++ body ∷ []) ≡ bodies_view bodies ++ body.items ∷ []
view_push bodies body = map-append (λ b. b.items) bodies (body ∷ [])

-- What a body after others takes.
pub memory_push : (bodies : List (List ℕ)) (body : List ℕ)
    → memory_of (bodies ++ body ∷ []) ≡ memory_of bodies + body_size body
memory_push bodies body = sum_by_push body_size bodies body

module _ {A : Type 0} (bodies : List (Vec ℕ A)) where
  -- There are as many bodies.
  pub view-len : length (bodies_view bodies) ≡ length bodies
  view-len = length-map bodies (λ (b : Vec ℕ A). b.items)

  -- The first bodies and one more, joined.
  pub joined-more : (i : ℕ) (body : Vec ℕ A) → i < length bodies
      → body ≡ slice_index_or bodies i body
      → joined (take (i + 1) (bodies_view bodies))
      ≡ joined (take i (bodies_view bodies)) ++ body.items
  joined-more i body l e =
      ap joined (take_more (bodies_view bodies) i body.items (omega (arith, l, view-len)))
      ∙ joined-push (take i (bodies_view bodies)) (get_or (bodies_view bodies) i body.items)
      ∙ ap (λ x. joined (take i (bodies_view bodies)) ++ x)
      (get_or-map (λ (b : Vec ℕ A). b.items) bodies i body body.items l
      ∙ ap (λ (b : Vec ℕ A). b.items) (sym e))

  -- How many bytes they have.
  pub joined-longer : (i : ℕ) (body : Vec ℕ A) → i < length bodies
      → body ≡ slice_index_or bodies i body
      → length (joined (take (i + 1) (bodies_view bodies)))
      ≡ length (joined (take i (bodies_view bodies))) + length body.items
  joined-longer i body l e =
      ap length (joined-more i body l e)
      ∙ length-append (joined (take i (bodies_view bodies))) body.items

-- ---- bodies that are moved

take-next : {X : Type 0} (xs : List X) (n : ℕ) (x : X) (rest : List X) → drop n xs ≡ x ∷ rest
    → take (suc n) xs ≡ take n xs ++ x ∷ []
take-next [] zero x rest e = cc
take-next [] (suc n) x rest e = cc
take-next (y ∷ ys) zero x rest e = cc
take-next (y ∷ ys) (suc n) x rest e = ap (λ zs. y ∷ zs) (take-next ys n x rest e)

-- One more body that is moved comes after those that were moved before.
pub moved-more : {X : Type 0} (before all : List X) (n : ℕ) (x : X) (rest : List X)
    → drop n all ≡ x ∷ rest
    → (before ++ take n all) ++ x ∷ [] ≡ before ++ take (n + 1) all
moved-more before all n x rest e =
    append_assoc before (take n all) (x ∷ [])
    ∙ ap (λ zs. before ++ zs)
    (sym (take-next all n x rest e) ∙ ap (λ k. take k all) (sym (add-one n)))
