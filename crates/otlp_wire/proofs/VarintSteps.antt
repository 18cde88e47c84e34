-- A varint that is read from its first byte on: the groups that were read, and those after them.
use Rattle.std.proofs.Common.{◌≡◌, refl, sym, ap, ◌∙◌, ℕ, zero, suc, ◌<◌, ◌≤◌, ◌+◌, ◌-◌, ◌*◌, ◌%◌}
use Rattle.std.proofs.Common.{◌^◌, List, [], ◌∷◌, length, take, drop, get_or, Result, Ok, Err}
use Rattle.std.proofs.Common.{drop-cons, add-one, arith, pow-suc, mod-eq_of_lt}
use Rattle.std.proofs.lemmas.Bool.{lt-ltb, le-ltb}
use Rattle.std.proofs.lemmas.List.{drop_all, take_all, length-drop}
use Rattle.std.proofs.Math.Nat.{mul-le-mul_right}
use Rattle.model_message.specs.Reading.{Fault, truncated, long_varint}
use Rattle.model_message.specs.Wire.{after, give, septets, number}

-- The groups that were read are the low part of the number, and the groups after them are read at
-- this scale.
pub record Begun (bytes : List ℕ) (value scale i : ℕ) : Type 0 where
  pub room : ℕ
  pub count : i + room ≡ 10
  pub power : scale ≡ 128 ^ i
  pub low : value < scale
  pub in_range : i ≤ length bytes
  pub whole : septets 10 bytes
      ≡ after (septets room (drop i bytes)) (λ high. give (value + scale * high))

-- A low part of 0 and a scale of 1 change nothing.
from-low : (r : Result (ℕ × List ℕ) Fault) → r ≡ after r (λ high. give (0 + 1 * high))
from-low (Ok (n, rest)) = ap (λ k. Ok (k, rest)) (omega arith)
from-low (Err f) = refl

-- Before the first group, the low part is 0 and the scale is 1.
pub begun-none : (bytes : List ℕ) → Begun bytes 0 1 0
begun-none bytes = record {
  room = 10;
  count = refl;
  power = refl;
  low = omega arith;
  in_range = omega arith;
  whole = from-low (septets 10 bytes);
}

-- One more group belongs to the low part, and the groups after it are read at the next scale.
one-higher : (value scale group : ℕ) (r : Result (ℕ × List ℕ) Fault) →
    after (after r (λ high. give (group + 128 * high))) (λ high. give (value + scale * high))
    ≡ after r (λ high. give (value + group * scale + scale * 128 * high))
one-higher value scale group (Ok (n, rest)) = ap (λ k. Ok (k, rest)) (omega arith)
one-higher value scale group (Err f) = refl

higher : (room value scale b : ℕ) (bs : List ℕ) → 128 ≤ b →
    after (septets (suc room) (b ∷ bs)) (λ high. give (value + scale * high))
    ≡ after (septets room bs) (λ high. give (value + b % 128 * scale + scale * 128 * high))
unfolding septets
higher room value scale b bs l =
    rw (le-ltb b 128 l) (one-higher value scale (b % 128) (septets room bs))

-- What is left begins with the byte at the index.
front : (bytes : List ℕ) (i b : ℕ) → i < length bytes → b ≡ get_or bytes i 0
    → drop i bytes ≡ b ∷ drop (suc i) bytes
front bytes i b l e = drop-cons bytes i 0 l ∙ ap (λ c. c ∷ drop (suc i) bytes) (sym e)

-- A byte of at least 128 adds its group to the low part of the number.
pub begun-more : (bytes : List ℕ) (value scale i b group : ℕ) → Begun bytes value scale i → i < 10
    → i < length bytes → b ≡ get_or bytes i 0 → group ≡ b % 128 → 128 ≤ b
    → Begun bytes (value + group * scale) (scale * 128) (i + 1)
begun-more bytes value scale i b group h ten l e g more =
    let below : group * scale ≤ 127 * scale = mul-le-mul_right scale (omega (arith, g)) in record {
      room = 9 - i;
      count = omega arith;
      power = rw h.power (sym (pow-suc 128 i) ∙ ap (λ k. 128 ^ k) (omega arith));
      low = omega (arith, h.low);
      in_range = omega arith;
      whole =
          h.whole
          ∙ ap (λ k. after (septets k (drop i bytes)) (λ high. give (value + scale * high)))
          (omega (arith, h.count))
          ∙ ap (λ l. after (septets (suc (9 - i)) l) (λ high. give (value + scale * high)))
          (front bytes i b l e)
          ∙ higher (9 - i) value scale b (drop (suc i) bytes) more
          ∙ rw (g, add-one) refl;
    }

-- ---- where the loop ends

ended : (value scale : ℕ) (r s : Result (ℕ × List ℕ) Fault)
    → r ≡ after s (λ high. give (value + scale * high)) → (f : Fault) → s ≡ Err f
    → Err f ≡ after r (λ n. give (n % 2 ^ 64))
ended value scale r s e f h =
    sym (ap (λ t. after t (λ n. give (n % 2 ^ 64)))
    (e ∙ ap (λ t. after t (λ high. give (value + scale * high))) h))

no-byte : (room : ℕ) → 0 < room → septets room [] ≡ Err truncated
unfolding septets
no-byte zero l = absurd (omega (arith, l))
no-byte (suc room) l = refl

no-room : (room : ℕ) (bs : List ℕ) → room ≡ 0 → septets room bs ≡ Err long_varint
unfolding septets
no-room zero bs e = refl
no-room (suc room) bs e = absurd (omega (arith, e))

-- Where the bytes end before the last group, the varint is truncated.
pub is-truncated : (bytes : List ℕ) (value scale i : ℕ) → Begun bytes value scale i → i < 10
    → length bytes ≤ i → Err truncated ≡ number bytes
unfolding number
is-truncated bytes value scale i h ten l =
    ended value scale (septets 10 bytes) (septets h.room (drop i bytes)) h.whole truncated
    (rw (drop_all i bytes l) (no-byte h.room (omega (arith, h.count))))

-- Where ten groups were read and none was the last, the varint is too long.
pub is-long : (bytes : List ℕ) (value scale i : ℕ) → Begun bytes value scale i → 10 ≤ i
    → Err long_varint ≡ number bytes
unfolding number
is-long bytes value scale i h ten =
    ended value scale (septets 10 bytes) (septets h.room (drop i bytes)) h.whole long_varint
    (no-room h.room (drop i bytes) (omega (arith, h.count)))

last-group : (room b : ℕ) (bs : List ℕ) → 0 < room → b < 128 → septets room (b ∷ bs) ≡ Ok (b, bs)
unfolding septets
last-group zero b bs l low = absurd (omega (arith, l))
last-group (suc room) b bs l low = rw (lt-ltb b 128 low) refl

-- A byte below 128 is the last group, and the number is read, in its low 64 bits.
pub is-number : (bytes : List ℕ) (value scale i b group : ℕ) → Begun bytes value scale i → i < 10
    → i < length bytes → b ≡ get_or bytes i 0 → group ≡ b % 128 → b < 128 →
    Ok ((value + group * scale) % 2 ^ 64, take (length bytes - (i + 1)) (drop (i + 1) bytes))
    ≡ number bytes
unfolding number
is-number bytes value scale i b group h ten l e g low = sym (
    ap (λ t. after t (λ n. give (n % 2 ^ 64))) (h.whole
    ∙ ap (λ t. after (septets h.room t) (λ high. give (value + scale * high))) (front bytes i b l e)
    ∙ ap (λ t. after t (λ high. give (value + scale * high)))
    (last-group h.room b (drop (suc i) bytes) (omega (arith, h.count)) low))
    ∙ rw (
      take_all (length bytes - (i + 1)) (drop (i + 1) bytes) (simp length-drop (omega arith)),
      add-one,
      g,
      mod-eq_of_lt low,
    ) (ap (λ k. Ok (k % 2 ^ 64, drop (suc i) bytes)) (omega arith)))

-- ---- a varint of one byte

first-byte : (b : ℕ) (bs : List ℕ) → b < 128 → Ok (b, bs) ≡ number (b ∷ bs)
unfolding number
first-byte b bs low = sym (
    ap (λ t. after t (λ n. give (n % 2 ^ 64))) (last-group 10 b bs (omega arith) low)
    ∙ ap (λ k. Ok (k, bs)) (mod-eq_of_lt (omega arith)))

-- A byte below 128 is a varint of one byte, which is its number.
pub one-byte : (bytes rest : List ℕ) (b n : ℕ) → bytes ≡ b ∷ rest → n ≡ b → b < 128
    → Ok (n, rest) ≡ number bytes
one-byte bytes rest b n whole same low =
    ap (λ k. Ok (k, rest)) same ∙ (first-byte b rest low ∙ ap number (sym whole))
