-- What the records of bodies and of notes are read as.
use Rattle.std.proofs.Common.{◌≡◌, inl, inr, refl, sym, ap, ◌∙◌, ℕ, zero, suc, ◌+◌}
use Rattle.std.proofs.Common.{◌-◌, ◌^◌}
use Rattle.std.proofs.Common.{◌<◌, ◌≤◌, max, List, [], ◌∷◌, ◌++◌, length, drop, map, arith}
use Rattle.std.proofs.Common.{true, false}
use Rattle.std.proofs.Common.{◌⊎◌}
use Rattle.std.specs.Prelude.{nat_le, Option, Some, None, filter_map}
use Rattle.std.proofs.lemmas.Bool.{cases_lt, le-leb, lt-leb, cond-true}
use Rattle.std.proofs.lemmas.Bool.{cond-false}
use Rattle.std.proofs.lemmas.Nat.{from_le_bytes-to_le_bytes_8}
use Rattle.std.specs.List.{enumerate_from}
use Rattle.spool.specs.Records.{body_content, note_content, body_of, bodies, notes}
use Rattle.spool.specs.Records.{numbered, one_more, span}
use Rattle.spool.specs.Spools.{numbered_from}

-- The bodies of records of bodies are these.
pub bodies-put : (bs : List (List ℕ)) → bodies (map Some (map body_content bs)) ≡ map Some bs
bodies-put [] = refl
bodies-put (b ∷ bs) = ap (λ (l : List (Option (List ℕ))). Some b ∷ l) (bodies-put bs)

-- They note nothing.
pub notes-put : (bs : List (List ℕ)) → notes (map Some (map body_content bs)) ≡ []
notes-put [] = refl
notes-put (b ∷ bs) = notes-put bs

-- A note is no body.
pub bodies-note : (n : ℕ) → bodies (Some (note_content n) ∷ []) ≡ []
bodies-note n = refl

-- It notes its number.
pub notes-note : (n : ℕ) → n < 2 ^ 64 → notes (Some (note_content n) ∷ []) ≡ n ∷ []
notes-note n small = ap (λ (m : ℕ). m ∷ []) (from_le_bytes-to_le_bytes_8 n small)

-- The bodies of records that check.
pub bodies-checked : (cs : List (List ℕ)) → bodies (map Some cs) ≡ map Some (filter_map body_of cs)
bodies-checked [] = refl
bodies-checked (c ∷ cs) = go (body_of c) refl (bodies-checked cs)
  where
    go : (o : Option (List ℕ)) → body_of c ≡ o
        → bodies (map Some cs) ≡ map Some (filter_map body_of cs)
        → bodies (map Some (c ∷ cs)) ≡ map Some (filter_map body_of (c ∷ cs))
    go None is more = rw is more
    go (Some b) is more = rw is (ap (λ (l : List (Option (List ℕ))). Some b ∷ l) more)

-- ---- numbers

-- Bodies after others are numbered from there on.
pub enumerate-append : (n m : ℕ) (xs ys : List (List ℕ)) → n + length xs ≡ m
    → enumerate_from n (xs ++ ys) ≡ enumerate_from n xs ++ enumerate_from m ys
enumerate-append n m [] ys e =
    let same : n ≡ m = omega (arith, e) in ap (λ (k : ℕ). enumerate_from k ys) same
enumerate-append n m (x ∷ xs) ys e =
    ap (λ (l : List (ℕ × List ℕ)). (n, x) ∷ l) (enumerate-append (n + 1) m xs ys (omega (arith, e)))

-- There are as many.
pub length-enumerate : (n : ℕ) (xs : List (List ℕ)) → length (enumerate_from n xs) ≡ length xs
length-enumerate n [] = refl
length-enumerate n (x ∷ xs) = ap suc (length-enumerate (n + 1) xs)

-- Bodies that are whole are numbered one after the other.
pub numbered-whole : (n : ℕ) (bs : List (List ℕ)) → numbered n (map Some bs) ≡ enumerate_from n bs
numbered-whole n [] = refl
numbered-whole n (b ∷ bs) = ap (λ (l : List (ℕ × List ℕ)). (n, b) ∷ l) (numbered-whole (n + 1) bs)

-- They take as many numbers as they are.
pub span-whole : (bs : List (List ℕ)) → span (map Some bs) ≡ length bs
span-whole [] = refl
span-whole (b ∷ bs) = ap suc (span-whole bs)

-- Bodies after others are numbered from there on.
pub numbered-append : (n m : ℕ) (xs ys : List (Option (List ℕ))) → n + length xs ≡ m
    → numbered n (xs ++ ys) ≡ numbered n xs ++ numbered m ys
numbered-append n m [] ys e =
    let same : n ≡ m = omega (arith, e) in ap (λ (k : ℕ). numbered k ys) same
numbered-append n m (None ∷ xs) ys e = numbered-append (n + 1) m xs ys (omega (arith, e))
numbered-append n m (Some x ∷ xs) ys e =
    ap (λ (l : List (ℕ × List ℕ)). (n, x) ∷ l) (numbered-append (n + 1) m xs ys (omega (arith, e)))

-- With a damaged body before them, bodies take one number more, or none.
pub span-damaged : (bs : List (Option (List ℕ)))
    → (span (None ∷ bs) ≡ 0) × (span bs ≡ 0) ⊎ (span (None ∷ bs) ≡ suc (span bs)) × (0 < span bs)
span-damaged bs = go (span bs)
  where
    go : (n : ℕ) → (one_more n ≡ 0) × (n ≡ 0) ⊎ (one_more n ≡ suc n) × (0 < n)
    go zero = inl (refl, refl)
    go (suc n) = inr (refl, omega arith)

-- Bodies that take no number are all damaged.
pub span-none : (n : ℕ) (bs : List (Option (List ℕ))) → span bs ≡ 0 → numbered n bs ≡ []
span-none n [] none = refl
span-none n (None ∷ bs) none = elim (span-damaged bs) [
  | inl both ↦ span-none (n + 1) bs both.1
  | inr both ↦ absurd (omega (arith, both.0, none))
]
span-none n (Some b ∷ bs) none = absurd (omega (arith, none))

-- ---- those with a number or a higher one

-- A body with a lower number isn't one of them.
pub numbered-below : (n k : ℕ) (b : List ℕ) (bs : List (ℕ × List ℕ)) → k < n
    → numbered_from n ((k, b) ∷ bs) ≡ numbered_from n bs
numbered-below n k b bs lt =
    cond-false (nat_le n k) ((k, b) ∷ numbered_from n bs) (numbered_from n bs) (lt-leb n k lt)

-- One with a number that isn't lower is.
pub numbered-above : (n k : ℕ) (b : List ℕ) (bs : List (ℕ × List ℕ)) → n ≤ k
    → numbered_from n ((k, b) ∷ bs) ≡ (k, b) ∷ numbered_from n bs
numbered-above n k b bs le =
    cond-true (nat_le n k) ((k, b) ∷ numbered_from n bs) (numbered_from n bs) (le-leb n k le)

-- From a number on that isn't above the first one, all are.
pub numbered-all : (n k : ℕ) (bs : List (Option (List ℕ))) → n ≤ k
    → numbered_from n (numbered k bs) ≡ numbered k bs
numbered-all n k [] le = refl
numbered-all n k (None ∷ bs) le = numbered-all n (k + 1) bs (omega (arith, le))
numbered-all n k (Some b ∷ bs) le =
    numbered-above n k b (numbered (k + 1) bs) le
    ∙ ap (λ (l : List (ℕ × List ℕ)). (k, b) ∷ l) (numbered-all n (k + 1) bs (omega (arith, le)))

-- From a number on that is above the last one, none is.
pub numbered-none : (n k : ℕ) (bs : List (Option (List ℕ))) → k + span bs ≤ n
    → numbered_from n (numbered k bs) ≡ []
numbered-none n k [] le = refl
numbered-none n k (None ∷ bs) le = elim (span-damaged bs) [
  | inl both ↦ ap (numbered_from n) (span-none (k + 1) bs both.1)
  | inr both ↦ numbered-none n (k + 1) bs (omega (arith, both.0, le))
]
numbered-none n k (Some b ∷ bs) le =
    numbered-below n k b (numbered (k + 1) bs) (omega (arith, le))
    ∙ numbered-none n (k + 1) bs (omega (arith, le))

-- Where none is, the number is above the last one.
pub ends-below : (n k : ℕ) (bs : List (Option (List ℕ)))
    → numbered_from n (numbered k bs) ≡ [] → k + span bs ≤ max n k
ends-below n k [] none = omega arith
ends-below n k (None ∷ bs) none =
    let more = ends-below n (k + 1) bs none in
    elim (span-damaged bs) [
      | inl both ↦ omega (arith, both.0)
      | inr both ↦ omega (arith, both.0, both.1, more)
    ]
ends-below n k (Some b ∷ bs) none = elim (cases_lt k n) [
  | inl lt ↦
      let more =
      ends-below n (k + 1) bs (sym (numbered-below n k b (numbered (k + 1) bs) lt) ∙ none) in
      omega (arith, more, lt)
  | inr ge ↦
      let some = ap length (sym (numbered-above n k b (numbered (k + 1) bs) ge) ∙ none) in
      absurd (omega (arith, some))
]

-- Those with two numbers or higher ones are those with the higher of the two.
pub numbered-twice : (n d : ℕ) (bs : List (ℕ × List ℕ))
    → numbered_from n (numbered_from d bs) ≡ numbered_from (max n d) bs
numbered-twice n d [] = refl
numbered-twice n d (b ∷ bs) = elim (cases_lt b.0 d) [
  | inl lt ↦
      let out : nat_le d b.0 ≡ false = lt-leb d b.0 lt in
      let also : nat_le (max n d) b.0 ≡ false = lt-leb (max n d) b.0 (omega arith) in
      ap (numbered_from n)
      (cond-false (nat_le d b.0) (b ∷ numbered_from d bs) (numbered_from d bs) out)
      ∙ (numbered-twice n d bs
      ∙ sym (cond-false (nat_le (max n d) b.0) (b ∷ numbered_from (max n d) bs)
      (numbered_from (max n d) bs) also))
  | inr ge ↦
      let kept : nat_le d b.0 ≡ true = le-leb d b.0 ge in
      let first =
      ap (numbered_from n)
      (cond-true (nat_le d b.0) (b ∷ numbered_from d bs) (numbered_from d bs) kept) in
      elim (cases_lt b.0 n) [
        | inl lt ↦
            let out : nat_le n b.0 ≡ false = lt-leb n b.0 lt in
            let also : nat_le (max n d) b.0 ≡ false = lt-leb (max n d) b.0 (omega arith) in
            first
            ∙ (cond-false (nat_le n b.0) (b ∷ numbered_from n (numbered_from d bs))
            (numbered_from n (numbered_from d bs)) out
            ∙ (numbered-twice n d bs
            ∙ sym (cond-false (nat_le (max n d) b.0) (b ∷ numbered_from (max n d) bs)
            (numbered_from (max n d) bs) also)))
        | inr above ↦
            let in_it : nat_le n b.0 ≡ true = le-leb n b.0 above in
            let also : nat_le (max n d) b.0 ≡ true = le-leb (max n d) b.0 (omega arith) in
            first
            ∙ (cond-true (nat_le n b.0) (b ∷ numbered_from n (numbered_from d bs))
            (numbered_from n (numbered_from d bs)) in_it
            ∙ (ap (λ (l : List (ℕ × List ℕ)). b ∷ l) (numbered-twice n d bs)
            ∙ sym (cond-true (nat_le (max n d) b.0) (b ∷ numbered_from (max n d) bs)
            (numbered_from (max n d) bs) also)))
      ]
]
