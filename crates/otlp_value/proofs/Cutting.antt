-- What the code does to the texts of a value is what the length limit does to them.
use Rattle.std.proofs.Common.{◌≡◌, refl, sym, ap, ap₂, subst, ◌∙◌, ℕ, zero, suc, ◌+◌, ◌<◌, ◌≤◌}
use Rattle.std.proofs.Common.{List, [], ◌∷◌, ◌++◌, map, take, length, arith, chars, encode_utf8}
use Rattle.std.proofs.Common.{encode_utf8_all, IsUtf8, Some, None, append_assoc, append-nil}
use Rattle.std.proofs.Common.{length-append, zero-add, take_at, take_all, get_or}
use Rattle.std.proofs.Math.ListN.{set, get_or-map}
use Rattle.std.proofs.lemmas.List.{length-map, map-id, map-set, nil_from_length}
use Rattle.std.proofs.lemmas.Str.{IsUtf8-past_char, chars_past_char, encodes-chars, chars-nil}
use Rattle.std.specs.Iterator.{SkipsThenYields, Yields}
use Rattle.std.specs.Str.Iter.{char_indices_steps, char_indices_rest, char_indices_offset}
use Rattle.model_span.specs.Attributes.{Value, text, bool, int, texts, bools, ints, cut}

-- ---- one text

-- these characters came off the front of the bytes, and the rest is left, from the offset on
record Passed (bs : List ℕ) (from : ℕ) (cs rest : List ℕ) (offset : ℕ) : Type 0 where
  pub bytes : bs ≡ encode_utf8_all cs ++ rest
  pub read : chars bs ≡ cs ++ chars rest
  pub utf8 : IsUtf8 rest
  pub place : offset ≡ from + length (encode_utf8_all cs)

-- the characters that came with their places
abbrev seconds : List (ℕ × ℕ) → List ℕ
seconds xs = map (λ x. x.1) xs

passed : (xs : List (ℕ × ℕ)) (s t : _) → IsUtf8 (char_indices_rest s)
    → Yields char_indices_steps s xs t →
    Passed (char_indices_rest s) (char_indices_offset s) (seconds xs) (char_indices_rest t)
    (char_indices_offset t)
passed [] s t utf8 same =
    rw (← same) (record { bytes = refl; read = refl; utf8 = utf8; place = omega arith })
passed (x ∷ xs) s t utf8 y =
    let step = y.1 in
    let more = passed xs y.0 t (IsUtf8-past_char _ _ x.1 utf8 step.1) y.2 in record {
      bytes =
          step.1 ∙ ap (λ l. encode_utf8 x.1 ++ l) more.bytes
          ∙ sym (append_assoc (encode_utf8 x.1) (encode_utf8_all (seconds xs)) _);
      read = chars_past_char _ _ x.1 utf8 step.1 ∙ ap (λ l. x.1 ∷ l) more.read;
      utf8 = more.utf8;
      place =
          omega (
            arith,
            more.place,
            step.2,
            length-append (encode_utf8 x.1) (encode_utf8_all (seconds xs)),
          );
    }

-- Where the text has a character of that number, the bytes are cut to as many characters.
pub cut-there : (bs : List ℕ) (n : ℕ) (p : ℕ × ℕ) (s u : _) → char_indices_rest s ≡ bs
    → char_indices_offset s ≡ 0 → IsUtf8 bs → SkipsThenYields char_indices_steps s n (Some p) u →
    take p.0 bs ≡ encode_utf8_all (take n (chars bs))
cut-there bs n p s u rest start utf8 ran =
    let front =
    rw (rest, start) at (passed ran.0 s ran.1.0 (subst IsUtf8 (sym rest) utf8) ran.1.1) in
    let many : length (seconds ran.0) ≡ n = length-map ran.0 (λ x. x.1) ∙ ran.2 in
    let place : length (encode_utf8_all (seconds ran.0)) ≡ p.0 =
    sym (ran.1.2.0 ∙ front.place ∙ zero-add _) in
    ap (take p.0) front.bytes ∙ take_at _ _ p.0 place
    ∙ ap encode_utf8_all (sym (ap (take n) front.read ∙ take_at (seconds ran.0) _ n many))

-- Where the text has no such character, it has no more characters than that.
pub cut-none : (bs : List ℕ) (n : ℕ) (s u : _) → char_indices_rest s ≡ bs
    → char_indices_offset s ≡ 0 → IsUtf8 bs → SkipsThenYields char_indices_steps s n None u →
    bs ≡ encode_utf8_all (take n (chars bs))
cut-none bs n s u rest start utf8 ran =
    let front =
    rw (rest, start) at (passed ran.0 s ran.1.0 (subst IsUtf8 (sym rest) utf8) ran.1.1) in
    let all : chars bs ≡ seconds ran.0 =
    front.read ∙ ap (λ l. seconds ran.0 ++ chars l) (nil_from_length _ ran.1.2.0)
    ∙ ap (λ l. seconds ran.0 ++ l) chars-nil ∙ append-nil (seconds ran.0) in
    let few : length (chars bs) ≤ n =
    omega (arith, ap length all, length-map ran.0 (λ (x : ℕ × ℕ). x.1), ran.2) in
    sym (encodes-chars bs utf8) ∙ ap encode_utf8_all (sym (take_all n (chars bs) few))

-- ---- the texts of an array

-- The items before an index are changed, and the others are as they were.
abbrev pub with_first : {A : Type 0} → (A → A) → ℕ → List A → List A
with_first f zero xs = xs
with_first f (suc n) [] = []
with_first f (suc n) (x ∷ xs) = f x ∷ with_first f n xs

with_first-more : {A : Type 0} (f : A → A) (xs : List A) (n : ℕ) (d : A) → n < length xs
    → set (with_first f n xs) n (f (get_or (with_first f n xs) n d)) ≡ with_first f (n + 1) xs
with_first-more f [] n d l = absurd (omega (arith, l))
with_first-more f (x ∷ xs) zero d l = refl
with_first-more f (x ∷ xs) (suc n) d l =
    ap (λ ys. f x ∷ ys) (with_first-more f xs n d (omega (arith, l)))
    ∙ ap (λ k. with_first f k (x ∷ xs)) step
  where
    step : suc (n + 1) ≡ suc n + 1
    step = omega arith

-- In the end all items are changed.
pub with_first-all : {A : Type 0} (f : A → A) (xs : List A) (n : ℕ) → length xs ≤ n
    → with_first f n xs ≡ map f xs
with_first-all f [] zero l = refl
with_first-all f [] (suc n) l = refl
with_first-all f (x ∷ xs) zero l = absurd (omega (arith, l))
with_first-all f (x ∷ xs) (suc n) l = ap (λ ys. f x ∷ ys) (with_first-all f xs n (omega (arith, l)))

-- One more is written at its place, in some form of the code's, which `view` takes to what is
-- changed.
pub one-more : {A B : Type 0} (f : B → B) (view : A → B) (xs : List B) (i : ℕ) (items : List A)
    (x y : A)
    → map view items ≡ with_first f i xs → i < length xs → view y ≡ f (view (get_or items i x)) →
    map view (set items i y) ≡ with_first f (i + 1) xs
one-more f view xs i items x y so_far l new = map-set view items i y
    ∙ ap₂ (λ zs z. set zs i z) so_far
    (new ∙ ap f (sym (get_or-map view items i x) ∙ ap (λ zs. get_or zs i (view x)) so_far))
    ∙ with_first-more f xs i (view x) l

-- ---- a value

-- Without a limit a value stays as it is.
pub uncut : (v : Value) → v ≡ cut None v
uncut (text t) = refl
uncut (bool b) = refl
uncut (int i) = refl
uncut (texts ts) = ap texts (sym (map-id ts))
uncut (bools bs) = refl
uncut (ints is) = refl
