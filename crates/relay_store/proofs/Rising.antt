-- Bodies whose numbers rise: those from a number on, and how many there are.
use Rattle.std.proofs.Common.{◌≡◌, inl, inr, refl, sym, ap, ◌∙◌, subst, ℕ, suc, ◌+◌, ◌≤◌}
use Rattle.std.proofs.Common.{List, [], ◌∷◌, ◌++◌, length, arith}
use Rattle.std.specs.Prelude.{nat_le}
use Rattle.std.specs.List.{enumerate_from}
use Rattle.std.proofs.lemmas.Bool.{cases_lt, le-leb, lt-leb, cond-true, cond-false}
use Rattle.std.proofs.lemmas.List.{map-append, length-map}
use Rattle.spool.specs.Spools.{AreRising, numbered_from}
use Rattle.relay_store.specs.Fronts.{bodies_of}

-- There are no more than there are numbers.
pub rising-few : (first last : ℕ) (xs : List (ℕ × List ℕ)) → AreRising first last xs
    → first + length xs ≤ last
rising-few first last [] r = omega (arith, r)
rising-few first last (x ∷ xs) r = omega (arith, r.0, rising-few (x.0 + 1) last xs r.1)

-- All are numbered from a lower number on.
pub rising-all : (n first last : ℕ) (xs : List (ℕ × List ℕ)) → n ≤ first
    → AreRising first last xs → numbered_from n xs ≡ xs
rising-all n first last [] le r = refl
rising-all n first last (x ∷ xs) le r =
    cond-true (nat_le n x.0) (x ∷ numbered_from n xs) (numbered_from n xs)
    (le-leb n x.0 (omega (arith, le, r.0)))
    ∙ ap (λ (l : List (ℕ × List ℕ)). x ∷ l)
    (rising-all n (x.0 + 1) last xs (omega (arith, le, r.0)) r.1)

-- Those from a number on rise from there.
pub rising-from : (n first last : ℕ) (xs : List (ℕ × List ℕ)) → n ≤ last
    → AreRising first last xs → AreRising n last (numbered_from n xs)
rising-from n first last [] le r = le
rising-from n first last (x ∷ xs) le r = elim (cases_lt x.0 n) [
  | inl lt ↦
      subst (AreRising n last)
      (sym (cond-false (nat_le n x.0) (x ∷ numbered_from n xs) (numbered_from n xs)
      (lt-leb n x.0 lt)))
      (rising-from n (x.0 + 1) last xs le r.1)
  | inr ge ↦
      subst (AreRising n last)
      (sym (cond-true (nat_le n x.0) (x ∷ numbered_from n xs) (numbered_from n xs)
      (le-leb n x.0 ge))) (
        ge,
        subst (AreRising (x.0 + 1) last)
            (sym (rising-all n (x.0 + 1) last xs (omega (arith, ge)) r.1)) r.1,
      )
]

-- Without the first ones, which are numbered one after the other, the others are left.
pub rising-after : (first last : ℕ) (bs : List (List ℕ)) (others : List (ℕ × List ℕ))
    → AreRising first last (enumerate_from first bs ++ others)
    → numbered_from (first + length bs) (enumerate_from first bs ++ others) ≡ others
rising-after first last [] others r =
    rising-all (first + 0) first last others (omega arith) r
rising-after first last (b ∷ bs) others r =
    let shift : first + suc (length bs) ≡ (first + 1) + length bs = omega arith in
    let n = first + suc (length bs) in
    let more = enumerate_from (first + 1) bs ++ others in
    cond-false (nat_le n first) ((first, b) ∷ numbered_from n more) (numbered_from n more)
    (lt-leb n first (omega arith))
    ∙ (ap (λ (k : ℕ). numbered_from k more) shift ∙ rising-after (first + 1) last bs others r.1)

-- ---- bodies

-- Bodies without the numbers that they were given.
pub bodies-enumerated : (n : ℕ) (bs : List (List ℕ)) → bodies_of (enumerate_from n bs) ≡ bs
bodies-enumerated n [] = refl
bodies-enumerated n (b ∷ bs) = ap (λ (l : List (List ℕ)). b ∷ l) (bodies-enumerated (n + 1) bs)

-- Bodies before others.
pub bodies-append : (xs ys : List (ℕ × List ℕ))
    → bodies_of (xs ++ ys) ≡ bodies_of xs ++ bodies_of ys
bodies-append xs ys = map-append (λ (b : ℕ × List ℕ). b.1) xs ys

-- There are as many.
pub bodies-count : (xs : List (ℕ × List ℕ)) → length (bodies_of xs) ≡ length xs
bodies-count xs = length-map xs (λ b. b.1)
