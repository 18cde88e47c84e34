-- The number in a trace id, byte by byte.
use Rattle.std.proofs.Common.{◌≡◌, ℕ, ◌+◌, ◌*◌, ◌^◌, ◌<◌, List, [], ◌∷◌, length, drop, get_or, ap}
use Rattle.std.proofs.Common.{◌∙◌, arith, drop-cons}
use Rattle.std.proofs.lemmas.List.{drop_all}
use Rattle.otlp_sampler.specs.Ratio.{big_endian, random_part}

-- the last seven bytes
last_bytes : (t : List ℕ) → length t ≡ 16
    → drop 9 t
    ≡ get_or t 9 0 ∷ get_or t 10 0 ∷ get_or t 11 0 ∷ get_or t 12 0 ∷ get_or t 13 0 ∷ get_or t 14 0
    ∷ get_or t 15 0 ∷ []
last_bytes t long =
    let tail : drop 16 t ≡ [] = drop_all 16 t (omega arith) in
    let at15 = drop-cons t 15 0 (omega arith) ∙ ap (λ l. get_or t 15 0 ∷ l) tail in
    let at14 = drop-cons t 14 0 (omega arith) ∙ ap (λ l. get_or t 14 0 ∷ l) at15 in
    let at13 = drop-cons t 13 0 (omega arith) ∙ ap (λ l. get_or t 13 0 ∷ l) at14 in
    let at12 = drop-cons t 12 0 (omega arith) ∙ ap (λ l. get_or t 12 0 ∷ l) at13 in
    let at11 = drop-cons t 11 0 (omega arith) ∙ ap (λ l. get_or t 11 0 ∷ l) at12 in
    let at10 = drop-cons t 10 0 (omega arith) ∙ ap (λ l. get_or t 10 0 ∷ l) at11 in
    drop-cons t 9 0 (omega arith) ∙ ap (λ l. get_or t 9 0 ∷ l) at10

-- The random part of a trace id is the number that its last seven bytes write, each by its place.
pub random_part-is : (t : List ℕ) → length t ≡ 16
    → random_part t
    ≡ get_or t 9 0 * 256 ^ 6
    + (get_or t 10 0 * 256 ^ 5
    + (get_or t 11 0 * 256 ^ 4
    + (get_or t 12 0 * 256 ^ 3
    + (get_or t 13 0 * 256 ^ 2 + (get_or t 14 0 * 256 + get_or t 15 0)))))
random_part-is t long = ap big_endian (last_bytes t long) ∙ omega arith

-- The random part of a trace id has at most 56 bits.
pub random_part-lt : (t : List ℕ) → length t ≡ 16 → ((k : ℕ) → get_or t k 0 < 256)
    → random_part t < 2 ^ 56
random_part-lt t long small =
    rw (random_part-is t long)
    (omega (arith, small 9, small 10, small 11, small 12, small 13, small 14, small 15))
