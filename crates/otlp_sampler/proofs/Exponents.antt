-- What an exponent does to a decimal number.
use Rattle.std.proofs.Common.{Option, None, Some, ◌≡◌, ℕ, suc, ◌+◌, ◌-◌, ◌*◌, ◌/◌, ◌^◌, ◌<◌, ◌≤◌}
use Rattle.std.proofs.Common.{min, Bool, true, false, List, ◌++◌, length, take, drop, get_or, sym}
use Rattle.std.proofs.Common.{ap, subst, ◌∙◌, inl, inr, arith, pow-suc, le_of_mul-le-mul_right}
use Rattle.std.proofs.Common.{mul-le-mul_right, lit<}
use Rattle.std.proofs.Math.Nat.{div-div-eq-div-mul, div-eq_of_lt, mul-div-mul_right}
use Rattle.std.proofs.Math.Nat.{pow-le-pow_right, zero-div}
use Rattle.std.proofs.Math.ListN.{length-append}
use Rattle.std.proofs.lemmas.Bool.{and_parts, cases_lt}
use Rattle.std.specs.Prelude.{if◌then◌else◌, IsTrue}
use Rattle.otlp_sampler.specs.Decimal.{are_digits, denominator, digits, exponent_part}
use Rattle.otlp_sampler.specs.Decimal.{fraction_part, is_decimal, is_exponent, is_exponent_mark}
use Rattle.otlp_sampler.specs.Decimal.{is_negative, is_point, mantissa_part, numerator, unsigned}
use Rattle.otlp_sampler.specs.Decimal.{whole_part}
use Rattle.std.proofs.lemmas.List.{length-drop, length-take, take-append-drop, take-take}
use Rattle.std.proofs.lemmas.List.Sums.{position_or_len_is}
use Rattle.std.proofs.lemmas.Nat.{pow-add}
use Rattle.std.specs.Char.{is_ascii_digit}
use Rattle.std.specs.List.{list_all, position_or_len}
use Rattle.std.specs.Option.{SomeIff}
use Rattle.std.specs.Str.Parse.{digits_value}
use Rattle.otlp_sampler.specs.Ratio.{share}
use Rattle.otlp_sampler.proofs.Decimals.{digits_of_parts, front-le, ten_pos, value_lt}

-- ---- the first byte that passes

-- Where no byte before a place passes a test and the one at it doesn't, none up to it does.
pub before_more : (p : ℕ → Bool) (xs : List ℕ) (i : ℕ)
    → ((k : ℕ) → k < i → p (get_or xs k 0) ≡ false) → p (get_or xs i 0) ≡ false
    → (k : ℕ) → k < i + 1 → p (get_or xs k 0) ≡ false
before_more p xs i before here k less =
    elim (cases_lt k i) [
      | inl earlier ↦ before k earlier
      | inr later ↦
          let same : i ≡ k = omega arith in subst (λ (j : ℕ). p (get_or xs j 0) ≡ false) same here
    ]

-- The first byte that passes a test is at the position that the search finds.
pub first_is : (p : ℕ → Bool) (xs : List ℕ) (i : ℕ) → i < length xs
    → ((k : ℕ) → k < i → p (get_or xs k 0) ≡ false) → p (get_or xs i 0) ≡ true
    → i ≡ position_or_len p xs
first_is p xs i below before here =
    sym (position_or_len_is p xs i 0 (omega arith) before (λ _. here))

-- A search for a byte that passes a test gives the length of the text where none passes.
pub none_is : (p : ℕ → Bool) (xs : List ℕ) (i : ℕ) → i ≡ length xs
    → ((k : ℕ) → k < i → p (get_or xs k 0) ≡ false)
    → length xs ≡ position_or_len p xs
none_is p xs i is before =
    sym is ∙ sym (position_or_len_is p xs i 0 (omega arith) before (λ less. absurd (omega arith)))

-- ---- answers

-- An answer to one question is the answer to another one with the same condition and value.
pub moved : (r : Option ℕ) (P Q : Type 0) (v w : ℕ) → (P → Q) → (Q → P) → (P → v ≡ w)
    → SomeIff r P v → SomeIff r Q w
moved None P Q v w there back same is = λ q. is (back q)
moved (Some x) P Q v w there back same is = (there is.0, is.1 ∙ same is.0)

-- The digits of a number, split at any place, have the share of all its digits.
pub placed : (r : Option ℕ) (cs : List ℕ) (p : ℕ)
    → SomeIff r (digits_value 10 (take p cs ++ drop p cs) ≤ 10 ^ length (drop p cs))
    (share (digits_value 10 (take p cs ++ drop p cs)) (10 ^ length (drop p cs)))
    → SomeIff r (digits_value 10 cs ≤ 10 ^ (length cs - p))
    (share (digits_value 10 cs) (10 ^ (length cs - p)))
placed r cs p is =
    let whole =
    subst (λ (l : List ℕ). SomeIff r (digits_value 10 l ≤ 10 ^ length (drop p cs))
    (share (digits_value 10 l) (10 ^ length (drop p cs))))
    (take-append-drop p cs) is in
    subst (λ (k : ℕ). SomeIff r (digits_value 10 cs ≤ 10 ^ k) (share (digits_value 10 cs) (10 ^ k)))
    (length-drop p cs) whole

-- Fewer of the first digits of a text write no more.
pub front_of_front : (i p : ℕ) (cs : List ℕ) → i ≤ p
    → digits_value 10 (take i cs) ≤ digits_value 10 (take p cs)
front_of_front i p cs le =
    subst (λ (l : List ℕ). digits_value 10 l ≤ digits_value 10 (take p cs)) (take-take i p cs le)
    (front-le i (take p cs))

-- Both parts of a text of digits, split at any place, are digits.
pub parts_at : (cs : List ℕ) (p : ℕ) → list_all is_ascii_digit cs ≡ true
    → (list_all is_ascii_digit (take p cs) ≡ true) × (list_all is_ascii_digit (drop p cs) ≡ true)
parts_at cs p are =
    digits_of_parts (take p cs) (drop p cs)
    (subst (λ (l : List ℕ). list_all is_ascii_digit l ≡ true) (sym (take-append-drop p cs)) are)

-- ---- places

regrouped : (v t s : ℕ) → v * s * t ≡ v * t * s
regrouped v t s = omega arith

-- A point moved to the right, within the digits, multiplies the number by a power of ten.
pub raised : (r : Option ℕ) (v e k f : ℕ) → f ≡ e + k → SomeIff r (v ≤ 10 ^ e) (share v (10 ^ e))
    → SomeIff r (v * 10 ^ k ≤ 10 ^ f) (share (v * 10 ^ k) (10 ^ f))
raised r v e k f is answer =
    let power : 10 ^ f ≡ 10 ^ e * 10 ^ k = ap (λ (n : ℕ). 10 ^ n) is ∙ pow-add 10 e k in
    let share_is : share v (10 ^ e) ≡ share (v * 10 ^ k) (10 ^ e * 10 ^ k) =
    sym (ap (λ (n : ℕ). n / (10 ^ e * 10 ^ k)) (sym (regrouped v (10 ^ k) (2 ^ 56)))
    ∙ mul-div-mul_right (v * 2 ^ 56) (10 ^ e) (ten_pos k)) in
    subst (λ (q : ℕ). SomeIff r (v * 10 ^ k ≤ q) (share (v * 10 ^ k) q)) (sym power)
    (moved r (v ≤ 10 ^ e) (v * 10 ^ k ≤ 10 ^ e * 10 ^ k) (share v (10 ^ e))
    (share (v * 10 ^ k) (10 ^ e * 10 ^ k))
    (λ le. mul-le-mul_right (10 ^ k) le) (λ le. le_of_mul-le-mul_right le (ten_pos k))
    (λ _. share_is) answer)

-- A point moved to the left divides the number by a power of ten.
pub lowered : (r : Option ℕ) (v e f k : ℕ) → e ≡ f + k → SomeIff r (v ≤ 10 ^ e) (share v (10 ^ e))
    → SomeIff r (v ≤ 10 ^ f * 10 ^ k) (share v (10 ^ f * 10 ^ k))
lowered r v e f k is answer =
    subst (λ (q : ℕ). SomeIff r (v ≤ q) (share v q))
    (ap (λ (n : ℕ). 10 ^ n) is ∙ pow-add 10 f k) answer

-- A point moved to the left, past the first digit, divides the share by a power of ten.
pub lowered_past : (v n f k m c : ℕ) → f + k ≡ n + m → v < 10 ^ n → c ≡ share v (10 ^ n)
    → (v ≤ 10 ^ f * 10 ^ k) × (c / 10 ^ m ≡ share v (10 ^ f * 10 ^ k))
lowered_past v n f k m c is less count =
    let power : 10 ^ n * 10 ^ m ≡ 10 ^ f * 10 ^ k =
    sym (pow-add 10 n m) ∙ ap (λ (i : ℕ). 10 ^ i) (sym is) ∙ pow-add 10 f k in
    let more : 10 ^ n ≤ 10 ^ (n + m) = pow-le-pow_right (lit< tt) (omega arith) in
    let bound : 10 ^ (n + m) ≡ 10 ^ f * 10 ^ k = pow-add 10 n m ∙ power in (
      omega arith,
      ap (λ (x : ℕ). x / 10 ^ m) count ∙ div-div-eq-div-mul (v * 2 ^ 56) (10 ^ n) (10 ^ m)
          ∙ ap (λ (q : ℕ). v * 2 ^ 56 / q) power,
    )

-- A number that is 0 stays 0 when it is multiplied.
pub no_times : (v t : ℕ) → v ≡ 0 → v * t ≡ 0
no_times v t is = ap (λ (x : ℕ). x * t) is ∙ omega arith

-- A ratio of 0 stays 0 with any exponent, and its share is 0.
pub nothing_raised : (v t q : ℕ) → v ≡ 0 → (v * t ≤ q) × (0 ≡ share (v * t) q)
nothing_raised v t q is =
    let none = no_times v t is in
    (omega arith, sym (ap (λ (x : ℕ). share x q) none ∙ zero-div q))

-- A number whose point moves to the right, past the last digit, is at most 1 only where it is 0.
pub only_zero : (v k f : ℕ) → f < k → v * 10 ^ k ≤ 10 ^ f → v ≡ 0
only_zero v k f less le =
    let step : 10 ^ suc f ≤ 10 ^ k = pow-le-pow_right (lit< tt) (omega arith) in
    let times : 10 ^ suc f ≡ 10 ^ f * 10 = pow-suc 10 f in
    let pos = ten_pos f in
    elim (cases_lt 0 v) [
      | inl some ↦
          let one : 1 ≤ v = omega arith in
          let whole : 1 * 10 ^ k ≤ v * 10 ^ k = mul-le-mul_right (10 ^ k) one in
          absurd (omega arith)
      | inr none ↦ omega arith
    ]

-- ---- exponents of any size

-- A positive exponent beyond a cap gives the same answer as the cap.
pub raised_any : (r : Option ℕ) (v e f m : ℕ) → f < m
    → SomeIff r (v * 10 ^ min e m ≤ 10 ^ f) (share (v * 10 ^ min e m) (10 ^ f))
    → SomeIff r (v * 10 ^ e ≤ 10 ^ f) (share (v * 10 ^ e) (10 ^ f))
raised_any r v e f m small is =
    elim (cases_lt m e) [
      | inl big ↦
          let at_most : min e m ≡ m = omega arith in
          let less : f < min e m = omega arith in
          let more : f < e = omega arith in
          moved r (v * 10 ^ min e m ≤ 10 ^ f) (v * 10 ^ e ≤ 10 ^ f)
          (share (v * 10 ^ min e m) (10 ^ f)) (share (v * 10 ^ e) (10 ^ f))
          (λ le. (nothing_raised v (10 ^ e) (10 ^ f) (only_zero v (min e m) f less le)).0)
          (λ le. (nothing_raised v (10 ^ min e m) (10 ^ f) (only_zero v e f more le)).0)
          (λ le.
          let zero_is = only_zero v (min e m) f less le in
          sym (nothing_raised v (10 ^ min e m) (10 ^ f) zero_is).1
          ∙ (nothing_raised v (10 ^ e) (10 ^ f) zero_is).1)
          is
      | inr fits ↦
          let same : min e m ≡ e = omega arith in
          subst (λ (k : ℕ). SomeIff r (v * 10 ^ k ≤ 10 ^ f) (share (v * 10 ^ k) (10 ^ f))) same is
    ]

tiny : (v n f k : ℕ) → v < 10 ^ n → n + 17 ≤ f + k
    → (v ≤ 10 ^ f * 10 ^ k) × (share v (10 ^ f * 10 ^ k) ≡ 0)
tiny v n f k less far =
    let whole : 10 ^ f * 10 ^ k ≡ 10 ^ (f + k) = sym (pow-add 10 f k) in
    let power : 10 ^ (n + 17) ≡ 10 ^ n * 10 ^ 17 = pow-add 10 n 17 in
    let more : 10 ^ (n + 17) ≤ 10 ^ (f + k) = pow-le-pow_right (lit< tt) far in
    let times : v * 2 ^ 56 < 10 ^ f * 10 ^ k = omega arith in
    (omega arith, div-eq_of_lt times)

-- A negative exponent beyond a cap gives the same answer as the cap.
pub lowered_any : (r : Option ℕ) (v n e f m : ℕ) → v < 10 ^ n → n + 17 ≤ f + m
    → SomeIff r (v ≤ 10 ^ f * 10 ^ min e m) (share v (10 ^ f * 10 ^ min e m))
    → SomeIff r (v ≤ 10 ^ f * 10 ^ e) (share v (10 ^ f * 10 ^ e))
lowered_any r v n e f m less far is =
    elim (cases_lt m e) [
      | inl big ↦
          let least = tiny v n f (min e m) less (omega arith) in
          let all = tiny v n f e less (omega arith) in
          moved r (v ≤ 10 ^ f * 10 ^ min e m) (v ≤ 10 ^ f * 10 ^ e)
          (share v (10 ^ f * 10 ^ min e m)) (share v (10 ^ f * 10 ^ e))
          (λ _. all.0) (λ _. least.0) (λ _. least.1 ∙ sym all.1) is
      | inr fits ↦
          let same : min e m ≡ e = omega arith in
          subst (λ (k : ℕ). SomeIff r (v ≤ 10 ^ f * 10 ^ k) (share v (10 ^ f * 10 ^ k))) same is
    ]

at_sign : (r : Option ℕ) (v n f e m p : ℕ) (b negative : Bool) → v < 10 ^ n → n + 17 ≤ f + m → f < m
    → negative ≡ b → p ≡ min e m
    → (negative ≡ false → SomeIff r (v * 10 ^ p ≤ 10 ^ f) (share (v * 10 ^ p) (10 ^ f)))
    → (negative ≡ true → SomeIff r (v ≤ 10 ^ f * 10 ^ p) (share v (10 ^ f * 10 ^ p)))
    → SomeIff r (v * 10 ^ (if b then 0 else e) ≤ 10 ^ f * 10 ^ (if b then e else 0))
    (share (v * 10 ^ (if b then 0 else e)) (10 ^ f * 10 ^ (if b then e else 0)))
at_sign r v n f e m p false negative less far small sign is right left =
    let here : SomeIff r (v * 10 ^ min e m ≤ 10 ^ f) (share (v * 10 ^ min e m) (10 ^ f)) =
    subst (λ (k : ℕ). SomeIff r (v * 10 ^ k ≤ 10 ^ f) (share (v * 10 ^ k) (10 ^ f))) is
    (right sign) in
    let alone : 10 ^ f ≡ 10 ^ f * 10 ^ 0 = omega arith in
    subst (λ (q : ℕ). SomeIff r (v * 10 ^ e ≤ q) (share (v * 10 ^ e) q)) alone
    (raised_any r v e f m small here)
at_sign r v n f e m p true negative less far small sign is right left =
    let here : SomeIff r (v ≤ 10 ^ f * 10 ^ min e m) (share v (10 ^ f * 10 ^ min e m)) =
    subst (λ (k : ℕ). SomeIff r (v ≤ 10 ^ f * 10 ^ k) (share v (10 ^ f * 10 ^ k))) is (left sign) in
    let alone : v ≡ v * 10 ^ 0 = omega arith in
    subst (λ (w : ℕ). SomeIff r (w ≤ 10 ^ f * 10 ^ e) (share w (10 ^ f * 10 ^ e))) alone
    (lowered_any r v n e f m less far here)

-- The parts of the mantissa of a decimal number are digits.
pub are_all : (text whole fraction : List ℕ) → IsTrue (is_decimal text)
    → whole ≡ whole_part (mantissa_part text) → fraction ≡ fraction_part (mantissa_part text)
    → IsTrue (list_all is_ascii_digit (whole ++ fraction))
are_all text whole fraction is before after =
    let mantissa = (and_parts (are_digits (digits (mantissa_part text))) (is_exponent text) is).0 in
    rw (before, after)
    ((and_parts _ (list_all is_ascii_digit (digits (mantissa_part text))) mantissa).1)

-- No part of the mantissa is longer than the text.
pub parts_short : (text : List ℕ)
    → (length (whole_part (mantissa_part text)) ≤ length text)
    × (length (fraction_part (mantissa_part text)) ≤ length text)
parts_short text =
    let mantissa = length-take (position_or_len is_exponent_mark text) text in
    let whole = length-take (position_or_len is_point (mantissa_part text)) (mantissa_part text) in
    let fraction =
    length-drop (position_or_len is_point (mantissa_part text) + 1) (mantissa_part text) in
    (omega arith, omega arith)

-- The count that the code finds is the share of the number that the text writes.
pub whole_answer : (r : Option ℕ) (text whole fraction : List ℕ) (negative : Bool) (p m : ℕ)
    → IsTrue (is_decimal text) → whole ≡ whole_part (mantissa_part text)
    → fraction ≡ fraction_part (mantissa_part text)
    → length whole + 17 ≤ m → length fraction < m
    → negative ≡ is_negative (exponent_part text)
    → p ≡ min (digits_value 10 (unsigned (exponent_part text))) m
    → (negative ≡ false
    → SomeIff r (digits_value 10 (whole ++ fraction) * 10 ^ p ≤ 10 ^ length fraction)
    (share (digits_value 10 (whole ++ fraction) * 10 ^ p) (10 ^ length fraction)))
    → (negative ≡ true
    → SomeIff r (digits_value 10 (whole ++ fraction) ≤ 10 ^ length fraction * 10 ^ p)
    (share (digits_value 10 (whole ++ fraction)) (10 ^ length fraction * 10 ^ p)))
    → SomeIff r (numerator text ≤ denominator text) (share (numerator text) (denominator text))
whole_answer r text whole fraction negative p m is before after wide small sign places right left =
    let parts : IsTrue (list_all is_ascii_digit (whole ++ fraction)) =
    are_all text whole fraction is before after in
    let len : length (whole ++ fraction) ≡ length whole + length fraction =
    length-append whole fraction in
    let answer =
    at_sign r (digits_value 10 (whole ++ fraction)) (length (whole ++ fraction)) (length fraction)
    (digits_value 10 (unsigned (exponent_part text))) m p
    (is_negative (exponent_part text)) negative
    (value_lt (whole ++ fraction) parts) (omega arith) small sign places right left in
    rw (← before, ← after) answer

-- ---- the loops

-- One more digit of a capped exponent gives the cap of the longer exponent.
pub places_more : (v d n w m : ℕ) → n ≡ min v m → w ≡ v * 10 + d
    → min (min (n * 10) m + d) m ≡ min w m
places_more v d n w m is more = omega arith

-- A division by a power of ten goes on after one division by ten.
pub once_more : (c p a : ℕ) → a ≡ c / 10 ^ p → 0 < p → a ≡ c / 10 / 10 ^ (p - 1)
once_more c p a is some =
    let back : suc (p - 1) ≡ p = omega arith in
    let power : 10 ^ p ≡ 10 ^ (p - 1) * 10 =
    ap (λ (k : ℕ). 10 ^ k) (sym back) ∙ pow-suc 10 (p - 1) in
    let swapped : 10 ^ p ≡ 10 * 10 ^ (p - 1) = omega arith in
    is ∙ ap (λ (q : ℕ). c / q) swapped ∙ sym (div-div-eq-div-mul c 10 (10 ^ (p - 1)))

-- A count of 0 stays 0, however often it is divided.
pub no_more : (c p : ℕ) → c ≡ 0 → c / 10 ^ p ≡ c
no_more c p is = ap (λ (x : ℕ). x / 10 ^ p) is ∙ zero-div (10 ^ p) ∙ sym is
