-- How many numbers a ratio samples.
use Rattle.std.proofs.Common.{◌≡◌, ℕ, zero, suc, ◌+◌, ◌-◌, ◌*◌, ◌/◌, ◌^◌, ◌<◌, ◌≤◌, max, cond, inl}
use Rattle.std.proofs.Common.{inr, arith, le-div_iff_mul-le, le_of_mul-le-mul_right}
use Rattle.std.proofs.Common.{mul-le-mul_right, div-mul-le_self}
use Rattle.std.proofs.Math.Nat.{div-le_of_le-mul, mul-div_cancel_left, zero-div}
use Rattle.std.specs.Prelude.{nat_le}
use Rattle.std.specs.List.{count_by, range_with_len}
use Rattle.std.proofs.lemmas.Bool.{cases_lt, cond-false, cond-true, le-leb, lt-leb, leb-true}
use Rattle.std.proofs.lemmas.List.Sums.{sum_by-cons}
use Rattle.otlp_sampler.specs.Ratio.{random_part, share, threshold_of}
use Rattle.otlp_sampler.specs.Laws.{AllAreSampled, GreaterRatiosSampleMore, NoneAreSampled}
use Rattle.otlp_sampler.specs.Laws.{ShareIsExact, sampled_below}
use Rattle.otlp_sampler.proofs.Identifiers.{random_part-lt}

-- A ratio of at most 1 samples no more than all numbers.
pub share_le : (n d : ℕ) → n ≤ d → n * 2 ^ 56 / d ≤ 2 ^ 56
share_le n d le = div-le_of_le-mul d (mul-le-mul_right (2 ^ 56) le)

-- Ratio 1 samples all numbers.
pub share_whole : (d : ℕ) → 0 < d → share d d ≡ 2 ^ 56
share_whole d pos = mul-div_cancel_left (2 ^ 56) pos

regrouped : (q n d m e s : ℕ) → q * d * e ≤ n * s * e → n * e * s ≤ m * d * s
    → q * e * d ≤ m * s * d
regrouped q n d m e s less more = omega arith

-- A greater ratio samples as many numbers, or more.
share-grows : (s n d m e : ℕ) → 0 < d → 0 < e → n * e ≤ m * d → n * s / d ≤ m * s / e
share-grows s n d m e some any le =
    let q : ℕ = n * s / d in
    let less : q * d * e ≤ n * s * e = mul-le-mul_right e (div-mul-le_self (n * s) d) in
    let more : n * e * s ≤ m * d * s = mul-le-mul_right s le in
    let both : q * e * d ≤ m * s * d = regrouped q n d m e s less more in
    (le-div_iff_mul-le any).1 (le_of_mul-le-mul_right both some)

lower : (a b r s : ℕ) → a ≤ b → s - a ≤ r → s - b ≤ r
lower a b r s le from = omega arith

-- A trace that a ratio samples is sampled by each greater ratio, too.
pub greater : GreaterRatiosSampleMore
greater n d m e trace some any le sampled =
    let grows = share-grows (2 ^ 56) n d m e some any le in
    let from : 2 ^ 56 - share n d ≤ random_part trace =
    leb-true (threshold_of n d) (random_part trace) sampled in
    le-leb (threshold_of m e) (random_part trace)
    (lower (share n d) (share m e) (random_part trace) (2 ^ 56) grows from)

above : (a r s : ℕ) → a ≡ 0 → r < s → r < s - a
above a r s nothing less = omega arith

-- Ratio 0 samples no trace.
pub none : NoneAreSampled
none d trace some is =
    let nothing : share 0 d ≡ 0 = zero-div d in
    lt-leb (threshold_of 0 d) (random_part trace)
    (above (share 0 d) (random_part trace) (2 ^ 56) nothing
    (random_part-lt trace is.length is.bytes))

below : (a r s : ℕ) → a ≡ s → s - a ≤ r
below a r s is = omega arith

-- Ratio 1 samples each trace.
pub all : AllAreSampled
all d trace some =
    le-leb (threshold_of d d) (random_part trace)
    (below (share d d) (random_part trace) (2 ^ 56) (share_whole d some))

skipped : (w f r a n t : ℕ) → a < t → f ≡ 0 → w ≡ f + r → r ≡ a + 1 + n - max t (a + 1)
    → w ≡ a + suc n - max t a
skipped w f r a n t less first whole rest = omega arith

taken : (w f r a n t : ℕ) → t ≤ a → f ≡ 1 → w ≡ f + r → r ≡ a + 1 + n - max t (a + 1)
    → w ≡ a + suc n - max t a
taken w f r a n t more first whole rest = omega arith

-- of n numbers from a on, those from t on
counted : (t a n : ℕ) → count_by (nat_le t) (range_with_len a n) ≡ a + n - max t a
counted t a zero = omega arith
counted t a (suc n) =
    let one : ℕ → ℕ = λ x. cond (nat_le t x) 1 0 in
    let cons = sum_by-cons one a (range_with_len (a + 1) n) in
    let rest = counted t (a + 1) n in
    elim (cases_lt a t) [
      | inl less ↦
          skipped _ (one a) _ a n t less (cond-false (nat_le t a) 1 0 (lt-leb t a less)) cons rest
      | inr more ↦
          taken _ (one a) _ a n t more (cond-true (nat_le t a) 1 0 (le-leb t a more)) cons rest
    ]

sampled_below-is : (t n : ℕ) → sampled_below t n ≡ n - t
unfolding sampled_below
sampled_below-is t n = omega (arith, counted t 0 n)

-- A threshold samples exactly the numbers of 56 bits from itself on.
pub exact : ShareIsExact
exact t = sampled_below-is t (2 ^ 56)
