-- Heads that grow by a byte, be they of requests or of replies: what is valid, and how it is
-- printed.
use Rattle.std.proofs.Common.{◌≡◌, ℕ, ◌≤◌, List, [], ◌∷◌, ◌++◌, length, refl, sym, ap, ◌∙◌, arith}
use Rattle.std.proofs.Common.{length-append, inl, inr, ◌⊎◌, take, length-take}
use Rattle.std.proofs.lemmas.List.{length-map}
use Rattle.httparse.specs.Ascii.{line_feed, carriage_return}
use Rattle.httparse.specs.Grammar.{LineEnd, crlf, lf, print_end, Field}
use Rattle.httparse.specs.Spans.{AreFieldsAt, header_bytes, name_and_value}
use Rattle.httparse.specs.declared.spans.HeaderSpan.{HeaderSpan}
use Rattle.http_wire.specs.Heads.{HasNone}

-- A front of a list with one more byte is all of it, or a front of the list.
pub push_split : (xs : List ℕ) (x : ℕ) (front rest : List ℕ) → xs ++ x ∷ [] ≡ front ++ rest
    → ((rest ≡ []) × (front ≡ xs ++ x ∷ [])) ⊎ ((more : List ℕ) × (xs ≡ front ++ more))
push_split xs x [] rest e = inr (xs, refl)
push_split [] x (y ∷ []) rest e = inl (cc, cc)
push_split [] x (y ∷ z ∷ front) rest e =
    let lengths = ap length e in absurd (omega (arith, lengths))
push_split (w ∷ xs) x (y ∷ front) rest e =
    let heads : w ≡ y = cc in
    let tails : xs ++ x ∷ [] ≡ front ++ rest = cc in
    elim (push_split xs x front rest tails) [
      | inl both ↦ inl (both.0, let ends = both.1 in cc)
      | inr both ↦ inr (both.0, let ends = both.1 in cc)
    ]

-- The last bytes of two equal lists are equal.
pub push_last : (xs ys : List ℕ) (x y : ℕ) → xs ++ x ∷ [] ≡ ys ++ y ∷ [] → x ≡ y
push_last [] [] x y e = cc
push_last [] (b ∷ ys) x y e =
    let lengths = ap length e ∙ length-append (b ∷ ys) (y ∷ []) in absurd (omega (arith, lengths))
push_last (a ∷ xs) [] x y e =
    let lengths = sym (ap length e) ∙ length-append (a ∷ xs) (x ∷ []) in
    absurd (omega (arith, lengths))
push_last (a ∷ xs) (b ∷ ys) x y e = push_last xs ys x y cc

-- The end of a line ends in a line feed.
pub end_ends : (end : LineEnd) → (front : List ℕ) × (print_end end ≡ front ++ line_feed ∷ [])
end_ends crlf = (carriage_return ∷ [], refl)
end_ends lf = ([], refl)

-- each such head ends in a line feed
abbrev pub EndsInLine : {H : Type 0} → (H → List ℕ) → Type 0
EndsInLine {H} print = (head : H) → (front : List ℕ) × (print head ≡ front ++ line_feed ∷ [])

-- The empty text has no head.
pub none_of_nothing : {H : Type 0} (Valid : H → Type 0) (print : H → List ℕ) → EndsInLine print
    → HasNone Valid print []
none_of_nothing Valid print ends head rest reads =
    let all = ap length reads.1 ∙ length-append (print head) rest in
    let some = ap length (ends head).1 ∙ length-append (ends head).0 (line_feed ∷ []) in
    omega (arith, all, some)

-- A byte that ends no line makes no head.
pub none_yet : {H : Type 0} (Valid : H → Type 0) (print : H → List ℕ) → EndsInLine print
    → (text : List ℕ) (b : ℕ) → HasNone Valid print text → (b ≡ 10 → ⊥)
    → HasNone Valid print (text ++ b ∷ [])
none_yet Valid print ends text b none other head rest reads =
    elim (push_split text b (print head) rest reads.1) [
      | inl both ↦ other (push_last text (ends head).0 b 10 (sym both.1 ∙ (ends head).1))
      | inr both ↦ none head both.0 (reads.0, both.1)
    ]

-- A head that a byte makes whole has nothing after it.
pub whole_now : {H : Type 0} (Valid : H → Type 0) (print : H → List ℕ) (text : List ℕ) (b : ℕ)
    (head : H) (rest : List ℕ)
    → HasNone Valid print text → Valid head × (text ++ b ∷ [] ≡ print head ++ rest)
    → text ++ b ∷ [] ≡ print head
whole_now Valid print text b head rest none reads =
    elim (push_split text b (print head) rest reads.1) [
      | inl both ↦ sym both.1
      | inr both ↦ absurd (none head both.0 (reads.0, both.1))
    ]

-- There are at most as many fields as there is room for spans.
pub fields_fit : (buf : List ℕ) (headers : List HeaderSpan) (count : ℕ) (fields : List Field)
    → AreFieldsAt buf headers count fields → length fields ≤ length headers
fields_fit buf headers count fields are =
    let left = length-map (take count headers) (header_bytes buf) in
    let right = length-map fields name_and_value in
    let same = ap length are in
    let part = length-take count headers in
    omega (arith, left, right, same, part)
