-- How many bytes values take, case by case.
use Rattle.std.proofs.Common.{◌≡◌, refl, take, sym, ap, ◌∙◌, ℕ, ◌+◌, ◌*◌, ◌<◌, ◌≤◌, List, [], ◌∷◌}
use Rattle.std.proofs.Common.{map, String, Vec, rules, arith, length}
use Rattle.std.specs.Prelude.{sum, sum_by, string_len}
use Rattle.std.proofs.Math.ListN.{get_or}
use Rattle.std.proofs.lemmas.List.Sums.{sum-map, sum_by-cons, sum_by_more, get_or-le-sum_by}
use Rattle.otlp_read.specs.declared.any_value.AnyValue.{AnyValue, Array, Pairs, the_lemmas}
use Rattle.otlp_read.specs.Memory.{at_most_64_bits}
use Rattle.trace_store.specs.Sizes.{pair_bytes, pair_step, value_bytes}

array_step : {A : Type 0} (v : Vec (AnyValue A) A)
    → value_bytes (Array v) ≡ 48 + sum (map value_bytes v.items)
array_step v = search (rules, the_lemmas)

-- An array takes 48 bytes and those of its values.
pub array_bytes : {A : Type 0} (v : Vec (AnyValue A) A)
    → value_bytes (Array v) ≡ 48 + sum_by value_bytes v.items
array_bytes v = array_step v ∙ ap (λ n. 48 + n) (sum-map value_bytes v.items)

pairs_step : {A : Type 0} (v : Vec (String A × AnyValue A) A)
    → value_bytes (Pairs v) ≡ 48 + sum_by pair_step (map (λ p. (p.0, value_bytes p.1)) v.items)
pairs_step v = search (rules, the_lemmas)

pairs_sum : {A : Type 0} (ps : List (String A × AnyValue A))
    → sum_by (pair_step {A = A}) (map (λ p. (p.0, value_bytes p.1)) ps) ≡ sum_by pair_bytes ps
pairs_sum [] = refl
pairs_sum {A} (p ∷ ps) =
    sum_by-cons (pair_step {A = A}) (p.0, value_bytes p.1) (map (λ p. (p.0, value_bytes p.1)) ps)
    ∙ ap (λ n. pair_bytes p + n) (pairs_sum ps) ∙ sym (sum_by-cons pair_bytes p ps)

-- A list of pairs takes 48 bytes and those of its pairs.
pub pairs_bytes : {A : Type 0} (v : Vec (String A × AnyValue A) A)
    → value_bytes (Pairs v) ≡ 48 + sum_by pair_bytes v.items
pairs_bytes v = pairs_step v ∙ ap (λ n. 48 + n) (pairs_sum v.items)

-- what is measured

-- Twice the bytes of an array are more than twice those of its values, and one.
pub array_larger : {A : Type 0} (v : AnyValue A) (values : Vec (AnyValue A) A)
    (items : List (AnyValue A))
    → v ≡ Array values → items ≡ values.items
    → 2 * sum_by value_bytes items + 1 < 2 * value_bytes v
array_larger v values items is same =
    omega (arith, ap value_bytes is ∙ array_bytes values, ap (sum_by value_bytes) same)

-- Twice the bytes of a list of pairs are more than twice those of its pairs, and one.
pub pairs_larger : {A : Type 0} (v : AnyValue A) (pairs : Vec (String A × AnyValue A) A)
    (items : List (String A × AnyValue A))
    → v ≡ Pairs pairs → items ≡ pairs.items
    → 2 * sum_by pair_bytes items + 1 < 2 * value_bytes v
pairs_larger v pairs items is same =
    omega (arith, ap value_bytes is ∙ pairs_bytes pairs, ap (sum_by pair_bytes) same)

-- An item of a list counts at most as much as all its items together.
pub value_smaller : {X : Type 0} (f : X → ℕ) (xs : List X) (i : ℕ) (x : X) → i < length xs
    → x ≡ get_or xs i x → f x ≤ sum_by f xs
value_smaller f xs i x within is = omega (arith, get_or-le-sum_by f xs i x within, ap f is)

-- The bytes counted of an array are its size, up to what 64 bits hold.
pub array_counted : {A : Type 0} (v : AnyValue A) (values : Vec (AnyValue A) A)
    (items : List (AnyValue A)) (part total : ℕ)
    → v ≡ Array values → items ≡ values.items
    → part ≡ at_most_64_bits (sum_by value_bytes items) → total ≡ at_most_64_bits (48 + part)
    → total ≡ at_most_64_bits (value_bytes v)
array_counted v values items part total is same p t =
    omega (arith, ap value_bytes is ∙ array_bytes values, ap (sum_by value_bytes) same, p, t)

-- The bytes counted of a list of pairs are its size, up to what 64 bits hold.
pub pairs_counted : {A : Type 0} (v : AnyValue A) (pairs : Vec (String A × AnyValue A) A)
    (items : List (String A × AnyValue A)) (part total : ℕ)
    → v ≡ Pairs pairs → items ≡ pairs.items
    → part ≡ at_most_64_bits (sum_by pair_bytes items) → total ≡ at_most_64_bits (48 + part)
    → total ≡ at_most_64_bits (value_bytes v)
pairs_counted v pairs items part total is same p t =
    omega (arith, ap value_bytes is ∙ pairs_bytes pairs, ap (sum_by pair_bytes) same, p, t)

-- After one more pair, the bytes counted are those of the pairs so far, up to what 64 bits hold.
pub pair_more : {A : Type 0} (ps : List (String A × AnyValue A)) (i : ℕ) (p : String A × AnyValue A)
    (total key first so_far part now : ℕ)
    → i < length ps → p ≡ get_or ps i p
    → total ≡ at_most_64_bits (sum_by pair_bytes (take i ps)) → key ≡ string_len p.0
    → first ≡ at_most_64_bits (64 + key) → so_far ≡ at_most_64_bits (total + first)
    → part ≡ at_most_64_bits (value_bytes p.1) → now ≡ at_most_64_bits (so_far + part)
    → now ≡ at_most_64_bits (sum_by pair_bytes (take (i + 1) ps))
pair_more ps i p total key first so_far part now within is t k f s v n =
    let more = sum_by_more pair_bytes ps i p within in
    let one : pair_bytes (get_or ps i p) ≡ 64 + string_len p.0 + value_bytes p.1 =
    sym (ap pair_bytes is) in
    omega (arith, more, one, t, k, f, s, v, n)
