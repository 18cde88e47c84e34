-- What decimal digits write, digit by digit.
use Rattle.std.proofs.Common.{◌≡◌, ℕ, zero, suc, ◌+◌, ◌-◌, ◌*◌, ◌/◌, ◌^◌, ◌<◌, ◌≤◌, true, eqb, leb}
use Rattle.std.proofs.Common.{List, [], ◌∷◌, ◌++◌, length, take, drop, get_or, refl, sym, ap, ◌∙◌}
use Rattle.std.proofs.Common.{inl, inr, arith, pow-suc, drop-cons, add-one, mul-le-mul_left}
use Rattle.std.proofs.Common.{mul-le-mul_right, lit<}
use Rattle.std.proofs.Math.Nat.{div-div-eq-div-mul, mul-add-div_right, one-le-pow}
use Rattle.std.proofs.lemmas.Bool.{and_from, and_parts, cases_eq, eq-eqb, le-ltb, leb-true, lt-ltb}
use Rattle.std.proofs.lemmas.Bool.{ne_eqb}
use Rattle.std.proofs.lemmas.Int.Digits.{digits_value_more}
use Rattle.std.proofs.lemmas.List.{take-append-drop}
use Rattle.std.specs.Char.{digit_value, is_ascii_digit}
use Rattle.std.specs.List.{list_all}
use Rattle.std.specs.Str.Parse.{digits_value, digits_value_after}
use Rattle.otlp_sampler.specs.Ratio.{share}
use Rattle.otlp_sampler.proofs.Shares.{share_whole}

-- ---- what digits write

shifted : (n d p v w x : ℕ) → w ≡ (n * 10 + d) * p + v → x ≡ (0 * 10 + d) * p + v
    → w ≡ n * (p * 10) + x
shifted n d p v w x here there = omega arith

-- after a number, they write it that many places further to the left
value-after : (n : ℕ) (cs : List ℕ)
    → digits_value_after 10 n cs ≡ n * 10 ^ length cs + digits_value 10 cs
value-after n [] = omega arith
value-after n (c ∷ cs) =
    let here = value-after (n * 10 + digit_value c) cs in
    let there = value-after (0 * 10 + digit_value c) cs in
    rw (pow-suc 10 (length cs))
    (shifted n (digit_value c) (10 ^ length cs) (digits_value 10 cs) _ _ here there)

first : (d p v w : ℕ) → w ≡ (0 * 10 + d) * p + v → w ≡ d * p + v
first d p v w is = omega arith

-- the first digit counts by its place
value-cons : (c : ℕ) (cs : List ℕ)
    → digits_value 10 (c ∷ cs) ≡ digit_value c * 10 ^ length cs + digits_value 10 cs
value-cons c cs =
    first (digit_value c) (10 ^ length cs) (digits_value 10 cs) _
    (value-after (0 * 10 + digit_value c) cs)

after-append : (n : ℕ) (xs ys : List ℕ)
    → digits_value_after 10 n (xs ++ ys) ≡ digits_value_after 10 (digits_value_after 10 n xs) ys
after-append n [] ys = refl
after-append n (x ∷ xs) ys = after-append (n * 10 + digit_value x) xs ys

-- Digits and more digits after them write a number in which the first ones count by their place.
pub value-append : (xs ys : List ℕ)
    → digits_value 10 (xs ++ ys) ≡ digits_value 10 xs * 10 ^ length ys + digits_value 10 ys
value-append xs ys = after-append 0 xs ys ∙ value-after (digits_value 10 xs) ys

-- A power of ten is more than 0.
pub ten_pos : (k : ℕ) → 0 < 10 ^ k
ten_pos k = omega (arith, one-le-pow k 10 (lit< tt))

grows : (a p b w : ℕ) → 0 < p → w ≡ a * p + b → a ≤ w
grows a p b w pos is = let one : 1 ≤ p = omega arith in omega (arith, mul-le-mul_left a one)

-- The first digits of a text write no more than all its digits.
pub front-le : (i : ℕ) (cs : List ℕ) → digits_value 10 (take i cs) ≤ digits_value 10 cs
front-le i cs =
    let whole =
    ap (digits_value 10) (sym (take-append-drop i cs)) ∙ value-append (take i cs) (drop i cs) in
    grows (digits_value 10 (take i cs)) (10 ^ length (drop i cs)) (digits_value 10 (drop i cs)) _
    (ten_pos (length (drop i cs))) whole

-- ---- digits

-- A decimal digit is a byte from 48 to 57.
pub digit_range : (c : ℕ) → is_ascii_digit c ≡ true → (48 ≤ c) × (c ≤ 57)
digit_range c is =
    let parts = and_parts (leb 48 c) (leb c 57) is in (leb-true 48 c parts.0, leb-true c 57 parts.1)

-- A decimal digit has its byte minus 48 as its value.
pub digit_value-is : (c : ℕ) → is_ascii_digit c ≡ true → digit_value c ≡ c - 48
digit_value-is c is =
    let range = digit_range c is in
    rw (le-ltb c 48 range.0, lt-ltb c 58 (omega (arith, range.1))) refl

-- Each byte of a text of digits is a digit.
pub digit_at : (cs : List ℕ) (i : ℕ) → list_all is_ascii_digit cs ≡ true → i < length cs
    → is_ascii_digit (get_or cs i 0) ≡ true
digit_at [] i are below = absurd (omega arith)
digit_at (c ∷ cs) zero are below = (and_parts (is_ascii_digit c) (list_all is_ascii_digit cs) are).0
digit_at (c ∷ cs) (suc i) are below =
    digit_at cs i (and_parts (is_ascii_digit c) (list_all is_ascii_digit cs) are).1 (omega arith)

next : (n v d e w : ℕ) → n ≡ v → e ≡ d → w ≡ v * 10 + e → 10 * n + d ≡ w
next n v d e w is digit more = omega arith

-- One more digit makes the number ten times as large, and adds the digit.
pub value_more : (cs : List ℕ) (i n : ℕ) → i < length cs → list_all is_ascii_digit cs ≡ true
    → n ≡ digits_value 10 (take i cs)
    → 10 * n + (get_or cs i 0 - 48) ≡ digits_value 10 (take (i + 1) cs)
value_more cs i n below are is =
    let more = digits_value_more 10 cs i below in
    let digit = digit_value-is (get_or cs i 0) (digit_at cs i are below) in
    next n (digits_value 10 (take i cs)) (get_or cs i 0 - 48)
    (digit_value (get_or cs i 0)) _ is digit more

nine_of : (c d : ℕ) → d ≡ c - 48 → c ≤ 57 → d ≤ 9
nine_of c d is le = omega arith

below : (d p v : ℕ) → d ≤ 9 → v < p → d * p + v < p * 10
below d p v nine less = omega (arith, mul-le-mul_right p nine)

-- Some decimal digits write less than ten to the power of their count.
pub value_lt : (cs : List ℕ) → list_all is_ascii_digit cs ≡ true
    → digits_value 10 cs < 10 ^ length cs
value_lt [] are = lit< tt
value_lt (c ∷ cs) are =
    let parts = and_parts (is_ascii_digit c) (list_all is_ascii_digit cs) are in
    let digit = digit_value-is c parts.0 in
    let range = digit_range c parts.0 in
    let nine : digit_value c ≤ 9 = nine_of c (digit_value c) digit range.1 in
    rw (value-cons c cs, pow-suc 10 (length cs))
    (below (digit_value c) (10 ^ length cs) (digits_value 10 cs) nine (value_lt cs parts.1))

none : (c d p v w : ℕ) → c ≡ 48 → d ≡ c - 48 → w ≡ d * p + v → w ≡ v
none c d p v w is digit whole =
    let zero_is : d ≡ 0 = omega arith in omega (arith, rw zero_is at whole)

some : (c d p v w : ℕ) → (c ≡ 48 → ⊥) → 48 ≤ c → d ≡ c - 48 → 0 < p → w ≡ d * p + v → w ≡ 0 → ⊥
some c d p v w other low digit pos whole empty =
    let one : 1 ≤ d = omega arith in omega (arith, mul-le-mul_right p one)

-- Decimal digits write 0 exactly where each of them is 0.
pub zeros : (cs : List ℕ) → list_all is_ascii_digit cs ≡ true
    → list_all (λ c. eqb c 48) cs ≡ eqb (digits_value 10 cs) 0
zeros [] are = refl
zeros (c ∷ cs) are =
    let parts = and_parts (is_ascii_digit c) (list_all is_ascii_digit cs) are in
    let digit = digit_value-is c parts.0 in
    let range = digit_range c parts.0 in
    let is = value-cons c cs in
    elim (cases_eq c 48) [
      | inl zero_digit ↦
          rw (eq-eqb c 48 zero_digit)
          (zeros cs parts.1
          ∙ ap (λ v. eqb v 0)
          (sym (none c (digit_value c) (10 ^ length cs) _ _ zero_digit digit is)))
      | inr other ↦
          rw (ne_eqb c 48 other)
          (sym (ne_eqb _ 0
          (some c (digit_value c) (10 ^ length cs) _ _ other range.0 digit
          (ten_pos (length cs)) is)))
    ]

-- ---- the share of a fraction

spread : (s d v p : ℕ) → d * s * p + v * s ≡ (d * p + v) * s
spread s d v p = omega arith

-- one digit more in front, and one division by ten more
share-step : (s d v p : ℕ) → 0 < p → (d * s + v * s / p) / 10 ≡ (d * p + v) * s / (p * 10)
share-step s d v p pos =
    ap (λ x. x / 10) (sym (mul-add-div_right pos (d * s) (v * s)))
    ∙ div-div-eq-div-mul (d * s * p + v * s) p 10
    ∙ ap (λ x. x / (p * 10)) (spread s d v p)

-- One more digit in front turns the share of a fraction into the share of the longer fraction.
pub count_more : (cs : List ℕ) (i count : ℕ) → i < length cs → list_all is_ascii_digit cs ≡ true
    → count ≡ share (digits_value 10 (drop (i + 1) cs)) (10 ^ length (drop (i + 1) cs))
    → ((get_or cs i 0 - 48) * 2 ^ 56 + count) / 10
    ≡ share (digits_value 10 (drop i cs)) (10 ^ length (drop i cs))
count_more cs i count below are is =
    let c = get_or cs i 0 in
    let rest = drop (suc i) cs in
    let was : count ≡ share (digits_value 10 rest) (10 ^ length rest) = rw add-one at is in
    let digit = digit_value-is c (digit_at cs i are below) in
    ap (λ d. (d * 2 ^ 56 + count) / 10) (sym digit)
    ∙ ap (λ n. (digit_value c * 2 ^ 56 + n) / 10) was
    ∙ share-step (2 ^ 56) (digit_value c) (digits_value 10 rest) (10 ^ length rest)
    (ten_pos (length rest))
    ∙ ap (λ q. (digit_value c * 10 ^ length rest + digits_value 10 rest) * 2 ^ 56 / q)
    (sym (pow-suc 10 (length rest)))
    ∙ ap (λ v. share v (10 ^ suc (length rest))) (sym (value-cons c rest))
    ∙ ap (λ l. share (digits_value 10 l) (10 ^ length l)) (sym (drop-cons cs i 0 below))

-- ---- both parts together

value_parts : (whole fraction : List ℕ) (w : ℕ) → digits_value 10 whole ≡ w
    → digits_value 10 (whole ++ fraction) ≡ w * 10 ^ length fraction + digits_value 10 fraction
value_parts whole fraction w is =
    value-append whole fraction ∙ ap (λ v. v * 10 ^ length fraction + digits_value 10 fraction) is

over : (v w p f : ℕ) → 0 < p → (w ≤ 1 → ⊥) → v ≡ w * p + f → v ≤ p → ⊥
over v w p f pos big is le = let two : 2 ≤ w = omega arith in omega (arith, mul-le-mul_right p two)

-- A number whose whole part is above 1 is above 1.
pub too_big : (whole fraction : List ℕ) → (digits_value 10 whole ≤ 1 → ⊥)
    → digits_value 10 (whole ++ fraction) ≤ 10 ^ length fraction → ⊥
too_big whole fraction big =
    over _ (digits_value 10 whole) (10 ^ length fraction) (digits_value 10 fraction)
    (ten_pos (length fraction)) big (value-append whole fraction)

nothing_whole : (v p f : ℕ) → v ≡ 0 * p + f → v ≡ f
nothing_whole v p f is = omega arith

-- A number whose whole part is 0 is at most 1 and has the share of its fraction.
pub fraction_alone : (whole fraction : List ℕ) → list_all is_ascii_digit fraction ≡ true
    → digits_value 10 whole ≡ 0
    → (digits_value 10 (whole ++ fraction) ≤ 10 ^ length fraction)
    × (share (digits_value 10 fraction) (10 ^ length fraction)
    ≡ share (digits_value 10 (whole ++ fraction)) (10 ^ length fraction))
fraction_alone whole fraction are is =
    let same =
    nothing_whole _ (10 ^ length fraction) (digits_value 10 fraction)
    (value_parts whole fraction 0 is) in
    let less = value_lt fraction are in
    (omega (arith, same, less), ap (λ v. share v (10 ^ length fraction)) (sym same))

one_whole : (v p f : ℕ) → v ≡ 1 * p + f → f ≡ 0 → v ≡ p
one_whole v p f is zero_is = omega arith

-- A number whose whole part is 1 and whose fraction is 0 has all as its share.
pub one_alone : (whole fraction : List ℕ) → digits_value 10 whole ≡ 1 → digits_value 10 fraction ≡ 0
    → (digits_value 10 (whole ++ fraction) ≤ 10 ^ length fraction)
    × (2 ^ 56 ≡ share (digits_value 10 (whole ++ fraction)) (10 ^ length fraction))
one_alone whole fraction is zero_is =
    let same =
    one_whole _ (10 ^ length fraction) (digits_value 10 fraction)
    (value_parts whole fraction 1 is) zero_is in (
      omega (arith, same),
      sym (ap (λ v. share v (10 ^ length fraction)) same
          ∙ share_whole (10 ^ length fraction) (ten_pos (length fraction))),
    )

more_than : (v p f : ℕ) → v ≡ 1 * p + f → (f ≡ 0 → ⊥) → v ≤ p → ⊥
more_than v p f is other le = other (omega arith)

-- A number whose whole part is 1 and whose fraction isn't 0 is above 1.
pub one_and_more : (whole fraction : List ℕ) → digits_value 10 whole ≡ 1
    → (digits_value 10 fraction ≡ 0 → ⊥)
    → digits_value 10 (whole ++ fraction) ≤ 10 ^ length fraction → ⊥
one_and_more whole fraction is other =
    more_than _ (10 ^ length fraction) (digits_value 10 fraction)
    (value_parts whole fraction 1 is) other

-- A number that is at most 1 and isn't 0 is 1.
pub one_left : (n v : ℕ) → n ≡ v → v ≤ 1 → (n ≡ 0 → ⊥) → v ≡ 1
one_left n v is le other = omega arith

-- Two parts of a text of digits are digits.
pub digits_of_parts : (whole fraction : List ℕ) → list_all is_ascii_digit (whole ++ fraction) ≡ true
    → (list_all is_ascii_digit whole ≡ true) × (list_all is_ascii_digit fraction ≡ true)
digits_of_parts [] fraction are = (refl, are)
digits_of_parts (c ∷ whole) fraction are =
    let parts = and_parts (is_ascii_digit c) (list_all is_ascii_digit (whole ++ fraction)) are in
    let rest = digits_of_parts whole fraction parts.1 in
    (and_from (is_ascii_digit c) (list_all is_ascii_digit whole) parts.0 rest.0, rest.1)

-- ---- the loops

-- A number so far that is above 1 isn't part of one that is at most 1.
pub passed : (w v m : ℕ) → 1 < w → w ≡ v → v ≤ m → m ≤ 1 → ⊥
passed w v m big is le small = omega arith

-- The share of a fraction stays below 2^56 with one more digit in front.
pub small_more : (d count : ℕ) → d ≤ 9 → count < 2 ^ 56 → (d * 2 ^ 56 + count) / 10 < 2 ^ 56
small_more d count nine small = omega arith

-- A digit of a text of digits is at most 9.
pub digit_le : (cs : List ℕ) (i : ℕ) → i < length cs → list_all is_ascii_digit cs ≡ true
    → get_or cs i 0 - 48 ≤ 9
digit_le cs i below are =
    let range = digit_range (get_or cs i 0) (digit_at cs i are below) in omega (arith, range.1)
