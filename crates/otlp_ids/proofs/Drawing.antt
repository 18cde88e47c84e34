-- Words of a generator, and the first valid draw.
use Rattle.std.proofs.Common.{◌≡◌, ℕ, zero, suc, ◌+◌, ◌*◌, ◌<◌, List, ◌++◌, Bool, true, false, Some}
use Rattle.std.proofs.Common.{None, refl, sym, ap, ◌∙◌, add-zero, zero-add, add-suc, append_assoc}
use Rattle.std.proofs.Common.{arith, length, take, ◌≤◌, w64}
use mathlib.Core.Path.{fun_ext}
use Rattle.std.proofs.lemmas.List.{append-nil, take_all}
use Rattle.std.specs.List.{find, flat_map, range_with_len}
use Rattle.rand_core.specs.Stream.{Stream, next_u64}
use Rattle.rand_core.specs.Steps.{word_bytes}
use Rattle.std.specs.Int.{to_be_bytes}
use Rattle.model_span.specs.Identifiers.{Words, bytes_at, draw, first_valid, identifier}
use Rattle.model_span.specs.Identifiers.{words_after, words_spent}
use Rattle.model_span.specs.Spans.{is_id}
use Rattle.otlp_ids.specs.WordStream.{after_words, words_of}

-- The bytes at one place more are those at the places before it and those at the last place.
pub flat_map-range_suc : (f : ℕ → List ℕ) (place n : ℕ)
    → flat_map f (range_with_len place (suc n))
    ≡ flat_map f (range_with_len place n) ++ f (place + n)
flat_map-range_suc f place zero = rw (add-zero, append-nil) refl
flat_map-range_suc f place (suc n) =
    let same : place + suc n ≡ place + 1 + n = omega arith in
    rw same
    (ap (λ (bs : List ℕ). f place ++ bs) (flat_map-range_suc f (place + 1) n)
    ∙ sym (append_assoc (f place) (flat_map f (range_with_len (place + 1) n)) (f (place + 1 + n))))

-- The bytes of the words that come after others are those at their places.
pub word_bytes-at : (bytes : ℕ → List ℕ) (s : Stream) (place n : ℕ)
    → word_bytes bytes next_u64 n (after_words place s)
    ≡ (flat_map (λ k. bytes (words_of s k)) (range_with_len place n), after_words (place + n) s)
unfolding word_bytes after_words words_of
word_bytes-at bytes s place zero = rw add-zero refl
word_bytes-at bytes s place (suc n) =
    let last = flat_map-range_suc (λ k. bytes (words_of s k)) place n in
    rw (word_bytes-at bytes s place n, add-suc place n, last) refl

-- The first number of a range that passes a test is found.
pub find-first : (p : ℕ → Bool) (a n i : ℕ) → ((k : ℕ) → k < i → p (a + k) ≡ false) → i < n
    → p (a + i) ≡ true
    → find p (range_with_len a n) ≡ Some (a + i)
find-first p a zero i before within here = absurd (omega arith)
find-first p a (suc n) zero before within here =
    let now : p a ≡ true = rw add-zero at here in rw (now, add-zero) refl
find-first p a (suc n) (suc i) before within here =
    let not_yet : p a ≡ false = rw add-zero at (before 0 (omega arith)) in
    let same : a + suc i ≡ a + 1 + i = omega arith in
    let next : p (a + 1 + i) ≡ true = rw same at here in
    let rest = find-first p (a + 1) n i (λ k below.
    let shifted : a + 1 + k ≡ a + suc k = omega arith in rw shifted (before (suc k) (omega arith)))
    (omega arith) next in
    rw (not_yet, same) rest

-- In a range in which no number passes the test, none is found.
pub find-none : (p : ℕ → Bool) (a n : ℕ) → ((k : ℕ) → k < n → p (a + k) ≡ false)
    → find p (range_with_len a n) ≡ None
find-none p a zero fails = refl
find-none p a (suc n) fails =
    let not_here : p a ≡ false = rw add-zero at (fails 0 (omega arith)) in
    let rest = find-none p (a + 1) n (λ k below.
    let shifted : a + 1 + k ≡ a + suc k = omega arith in
    rw shifted (fails (suc k) (omega arith))) in
    rw not_here rest

-- The words after a place are those of the stream that is left there.
pub words-shifted : (bytes : ℕ → List ℕ) (s : Stream) (place n : ℕ)
    → ◌≡◌ {A = List ℕ × Stream} (
      flat_map (λ k. bytes (words_of (after_words place s) k)) (range_with_len 0 n),
      after_words n (after_words place s),
    )
    (flat_map (λ k. bytes (words_of s k)) (range_with_len place n), after_words (place + n) s)
unfolding after_words
words-shifted bytes s place n =
    let own : word_bytes bytes next_u64 n (after_words place s)
    ≡ (
      flat_map (λ k. bytes (words_of (after_words place s) k)) (range_with_len 0 n),
      after_words n (after_words place s),
    ) =
    rw zero-add at (word_bytes-at bytes (after_words place s) 0 n) in
    sym own ∙ word_bytes-at bytes s place n

-- A buffer that whole words fill has the bytes of these words.
pub filled : (bytes : ℕ → List ℕ) (s t : Stream) (k m n : ℕ) (xs : List ℕ)
    → (take n xs, t) ≡ word_bytes bytes next_u64 k s → length xs ≤ n → k ≡ m
    → ◌≡◌ {A = List ℕ × Stream} (xs, t)
    (flat_map (λ k. bytes (words_of s k)) (range_with_len 0 m), after_words m s)
unfolding after_words
filled bytes s t k m n xs wrote whole same =
    let run : (xs, t) ≡ word_bytes bytes next_u64 k s = rw (take_all n xs whole) at wrote in
    rw (← same) (run ∙ rw zero-add at (word_bytes-at bytes s 0 k))

-- A draw of `n` words gives the bytes of that draw in the model, after `i` other draws.
pub drawn : (n i m : ℕ) (s t u : Stream) (bs : List ℕ) → t ≡ after_words (n * i) s
    → u ≡ after_words m t
    → bs ≡ bytes_at (words_of t) 0 m → m ≡ n
    → (bs ≡ draw n (words_of s) i) × (u ≡ after_words (n * (i + 1)) s)
drawn n i m s t u bs before rest read same =
    let both = words-shifted (to_be_bytes w64) s (n * i) n in
    let next : n * i + n ≡ n * (i + 1) = grind arith in (
      rw (read, before, same) (ap (λ (p : List ℕ × Stream). p.0) both),
      rw (← next, rest, before, same) (ap (λ (p : List ℕ × Stream). p.1) both),
    )

-- The first draw that is valid is the identifier, and the words of the draws up to it are spent.
pub drawn-first : (n i : ℕ) (words : Words) (bs : List ℕ)
    → ((k : ℕ) → k < i → is_id (draw n words k) ≡ false) → i < 8
    → bs ≡ draw n words i → is_id bs ≡ true
    → (identifier n words ≡ Some bs) × (words_spent n words ≡ n * (i + 1))
unfolding first_valid
drawn-first n i words bs failed within here valid =
    let found : find (λ k. is_id (draw n words k)) (range_with_len 0 8) ≡ Some i =
    find-first (λ k. is_id (draw n words k)) 0 8 i (λ k below. rw zero-add (failed k below)) within
    (rw (zero-add, ← here) valid)
    ∙ rw zero-add refl in
    (rw (found, here) refl, rw found refl)

-- Where none of eight draws is valid, there is no identifier, and the words of all are spent.
pub drawn-none : (n : ℕ) (words : Words) → ((k : ℕ) → k < 8 → is_id (draw n words k) ≡ false)
    → (identifier n words ≡ None) × (words_spent n words ≡ n * 8)
unfolding first_valid
drawn-none n words failed =
    let none : find (λ k. is_id (draw n words k)) (range_with_len 0 8) ≡ None =
    find-none (λ k. is_id (draw n words k)) 0 8 (λ k below. rw zero-add (failed k below)) in
    (rw none refl, rw none refl)

-- The stream after some words, and then more, is the stream after all of them.
pub after_words-after_words : (n k : ℕ) (s : Stream)
    → after_words k (after_words n s) ≡ after_words (n + k) s
unfolding after_words
after_words-after_words n zero s = rw add-zero refl
after_words-after_words n (suc k) s =
    rw (add-suc n k) (ap (λ (t : Stream). (next_u64 t).1) (after_words-after_words n k s))

-- The words that are left are those after the ones that are spent.
pub words_of-after_words : (n : ℕ) (s : Stream)
    → words_of (after_words n s) ≡ words_after n (words_of s)
unfolding words_of
words_of-after_words n s =
    fun_ext (λ k. ap (λ (t : Stream). (next_u64 t).0) (after_words-after_words n k s))
