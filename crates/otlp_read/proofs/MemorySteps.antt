-- How many bytes the fields of a message take, one field after another.
use Rattle.std.proofs.Common.{◌≡◌, ◌≢◌, ℕ, zero, suc, ◌+◌, ◌-◌, ◌^◌, ◌<◌, List, [], refl, ◌∙◌, ap}
use Rattle.std.proofs.Common.{arith}
use Rattle.std.specs.Prelude.{min, sum_by}
use Rattle.std.proofs.lemmas.List.Sums.{sum_by-cons}
use Rattle.model_message.specs.Reading.{Reading}
use Rattle.model_message.specs.Wire.{Field, put, row}
use Rattle.otlp_read.specs.declared.memory.Kind.{Kind}
use Rattle.otlp_read.specs.Memory.{at_most_64_bits, field_size, message_size}

-- `total` bytes were counted of all fields, and these fields are left
pub record SizedSoFar (f : Field → ℕ) (all left : Reading (List Field)) (total : ℕ) : Type 0 where
  pub sum : at_most_64_bits (total + sum_by f left.value) ≡ at_most_64_bits (sum_by f all.value)
  pub low : total < 2 ^ 64

-- Before the first field, 0 bytes are counted and all fields are left.
pub none_sized : (f : Field → ℕ) (all left : Reading (List Field)) (total : ℕ) → left ≡ all
    → total ≡ 0 → SizedSoFar f all left total
none_sized f all left total same e = record {
  sum = omega (arith, ap (λ (r : Reading (List Field)). sum_by f r.value) same, e);
  low = omega (arith, e);
}

-- After one more field, its bytes are counted, up to what 64 bits hold.
pub more_sized : (f : Field → ℕ) (all left left' : Reading (List Field)) (x : Field)
    (total part total' : ℕ)
    → SizedSoFar f all left total → left ≡ put x left'
    → part ≡ at_most_64_bits (f x) → total' ≡ min (total + part) (2 ^ 64 - 1)
    → SizedSoFar f all left' total'
more_sized f all left left' x total part total' h next p t =
    let first : sum_by f left.value ≡ f x + sum_by f left'.value =
    ap (λ (r : Reading (List Field)). sum_by f r.value) next ∙ sum_by-cons f x left'.value in
    record { sum = omega (arith, first, h.sum, p, t); low = omega (arith, t) }

-- Once no field is left, the bytes of all fields are counted, up to what 64 bits hold.
pub all_sized : (f : Field → ℕ) (all left : Reading (List Field)) (total : ℕ)
    → SizedSoFar f all left total → left.value ≡ [] → total ≡ at_most_64_bits (sum_by f all.value)
all_sized f all left total h none =
    let nothing : sum_by f left.value ≡ 0 = ap (sum_by f) none in
    omega (arith, h.sum, nothing, h.low)

-- a message, level by level

-- A message below the last level takes no bytes.
pub message_none : (depth : ℕ) (kind : Kind) (bs : List ℕ) → depth ≡ 0
    → 0 ≡ at_most_64_bits (message_size depth kind bs)
unfolding message_size
message_none zero kind bs e = refl
message_none (suc depth) kind bs e = absurd (omega (arith, e))

message_by : (depth : ℕ) (kind : Kind) (bs : List ℕ)
    → message_size (suc depth) kind bs
    ≡ sum_by (field_size (message_size depth) kind) (row bs).value
unfolding message_size
message_by depth kind bs = refl

-- A message takes the bytes of its fields, whose messages nest one level less deep.
pub message_step : (depth : ℕ) (kind : Kind) (bs : List ℕ) → depth ≢ 0
    → message_size depth kind bs
    ≡ sum_by (field_size (message_size (depth - 1)) kind) (row bs).value
message_step depth kind bs some =
    let more : depth ≡ suc (depth - 1) = omega (arith, some) in
    ap (λ d. message_size d kind bs) more ∙ message_by (depth - 1) kind bs
