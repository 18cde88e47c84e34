-- What a mantissa and the powers of two and ten are below.
use Rattle.std.proofs.Common.{◌≡◌, sym, subst, ◌∙◌, ℕ, suc, ◌+◌, ◌-◌, ◌*◌, ◌/◌, ◌^◌, ◌<◌, ◌≤◌}
use Rattle.std.proofs.Common.{arith}
use Rattle.std.proofs.Math.Nat.{pow-le-pow_right, mul-le-mul, pow-suc}

-- A power of ten below the 23rd is at most 10^22.
pub ten_below : (t k : ℕ) → t ≡ 10 ^ k → k < 23 → t ≤ 10 ^ 22
ten_below t k is h =
    let less : k ≤ 22 = omega arith in
    let most : 10 ^ k ≤ 10 ^ 22 = pow-le-pow_right (omega arith) less in
    subst (λ x. x ≤ 10 ^ 22) (sym is) most

-- Ten times a power of ten is the next one.
pub ten_more : (t k : ℕ) → t ≡ 10 ^ k → t * 10 ≡ 10 ^ (k + 1)
ten_more t k is =
    let next : k + 1 ≡ suc k = omega arith in
    subst (λ x. x * 10 ≡ 10 ^ (k + 1)) (sym is)
    (subst (λ n. 10 ^ k * 10 ≡ 10 ^ n) (sym next) (sym (pow-suc 10 k)))

-- A tenth of a power of ten above 1 is the power before it.
pub ten_less : (t n i : ℕ) → t ≡ 10 ^ (n - i) → i < n → t / 10 ≡ 10 ^ (n - (i + 1))
ten_less t n i is h =
    let left : n - i ≡ suc (n - (i + 1)) = omega arith in
    let more : t ≡ 10 ^ (n - (i + 1)) * 10 =
    is ∙ subst (λ k. 10 ^ k ≡ 10 ^ (n - (i + 1)) * 10) (sym left) (pow-suc 10 (n - (i + 1))) in
    omega arith

-- A power of ten is more than 0.
pub ten_some : (t k : ℕ) → t ≡ 10 ^ k → 0 < t
ten_some t k is =
    let some : 10 ^ 0 ≤ 10 ^ k = pow-le-pow_right (omega arith) {i = 0} {j = k} (omega arith) in
    subst (λ x. 0 < x) (sym is) (omega arith)

-- A power of two with a smaller exponent is no larger.
pub two_small : (k n : ℕ) → k ≤ n → 2 ^ k ≤ 2 ^ n
two_small k n h = pow-le-pow_right (omega arith) h

-- A power of two is more than 0.
pub two_some : (k : ℕ) → 0 < 2 ^ k
two_some k =
    let some : 2 ^ 0 ≤ 2 ^ k = pow-le-pow_right (omega arith) {i = 0} {j = k} (omega arith) in
    omega arith

-- A mantissa below 2^53 times a power of two up to 2^75 is below 2^128.
pub whole_small : (m t : ℕ) → m < 2 ^ 53 → t ≤ 2 ^ 75 → m * t < 2 ^ 128
whole_small m t h k =
    let least : m ≤ 2 ^ 53 - 1 = omega arith in
    let most : m * t ≤ (2 ^ 53 - 1) * 2 ^ 75 = mul-le-mul least k in
    omega arith

-- A tenth of a power of ten above 1 is more than 0.
pub tenth_some : (t n i : ℕ) → t ≡ 10 ^ (n - i) → i < n → 0 < t / 10
tenth_some t n i is h = ten_some (t / 10) (n - (i + 1)) (ten_less t n i is h)

-- A power of two is below 2^128 where a larger power of two is.
pub two_below : (k n : ℕ) → k ≤ n → 2 ^ n < 2 ^ 128 → 2 ^ k < 2 ^ 128
two_below k n h below = let less : 2 ^ k ≤ 2 ^ n = two_small k n h in omega (arith, less, below)
