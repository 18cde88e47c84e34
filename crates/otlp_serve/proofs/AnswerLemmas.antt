-- What the parts of a request's fields are.
use Rattle.std.proofs.Common.{◌≡◌, ◌≢◌, ℕ, zero, suc, ◌+◌, ◌<◌, true, false, ◌&&◌, List, [], ◌∷◌}
use Rattle.std.proofs.Common.{length, map, take, get_or, refl, sym, ap, ◌∙◌, arith, All, codes}
use Rattle.std.specs.Prelude.{reverse}
use Rattle.std.specs.List.{list_all}
use Rattle.std.proofs.lemmas.Bool.{cond-true, cond-false, eq-eqb, ne_eqb}
use Rattle.std.proofs.lemmas.List.{take_more, reverse-append, reverse-reverse}
use Rattle.std.proofs.lemmas.List.Elements.{All-head, All-tail}
use Rattle.httparse.specs.Grammar.{is_ows, skip_ows}
use Rattle.http_header.specs.FieldValue.{FieldValue}
use Rattle.otlp_serve.specs.Answers.{before, without_end_blanks, is_same_word}

-- the byte is another
abbrev pub IsNot : ℕ → ℕ → Type 0
IsNot stop byte = byte ≢ stop

-- A text without the byte at which to stop is all before it.
pub before_none : (stop : ℕ) (text : List ℕ) → All (IsNot stop) text → before stop text ≡ text
before_none stop [] none = refl
before_none stop (b ∷ text) none =
    cond-false _ _ _ (ne_eqb b stop (All-head (IsNot stop) b text none))
    ∙ ap (λ t. b ∷ t) (before_none stop text (All-tail (IsNot stop) b text none))

-- What is before the first such byte of a text is the front up to its place.
pub before_first : (stop : ℕ) (text : List ℕ) (at : ℕ) → at < length text → get_or text at 0 ≡ stop
    → ((k : ℕ) → k < at → get_or text k 0 ≢ stop) → before stop text ≡ take at text
before_first stop [] at inside here others = absurd (omega (arith, inside))
before_first stop (b ∷ text) zero inside here others = cond-true _ _ _ (eq-eqb b stop here)
before_first stop (b ∷ text) (suc at) inside here others =
    cond-false _ _ _ (ne_eqb b stop (others 0 (omega arith)))
    ∙ ap (λ t. b ∷ t)
    (before_first stop text at (omega (arith, inside)) here
    (λ k below. others (suc k) (omega (arith, below))))

-- A front with one more byte, from its end, begins with that byte.
reverse_front : (text : List ℕ) (n : ℕ) → n < length text
    → reverse (take (n + 1) text) ≡ get_or text n 0 ∷ reverse (take n text)
reverse_front text n inside =
    ap reverse (take_more text n 0 inside) ∙ reverse-append (take n text) (get_or text n 0 ∷ [])

-- A blank at the end is left out.
pub blank_at_end : (text : List ℕ) (n : ℕ) → n < length text → is_ows (get_or text n 0) ≡ true
    → without_end_blanks (take (n + 1) text) ≡ without_end_blanks (take n text)
blank_at_end text n inside blank =
    ap (λ t. reverse (skip_ows t)) (reverse_front text n inside)
    ∙ ap reverse (cond-true _ _ _ blank)

-- A text whose last byte is no blank stays as it is.
pub word_at_end : (text : List ℕ) (n : ℕ) → n < length text → is_ows (get_or text n 0) ≡ false
    → without_end_blanks (take (n + 1) text) ≡ take (n + 1) text
word_at_end text n inside other =
    ap (λ t. reverse (skip_ows t)) (reverse_front text n inside)
    ∙ ap reverse (cond-false _ _ _ other ∙ sym (reverse_front text n inside))
    ∙ reverse-reverse (take (n + 1) text)

-- A test of the bytes of the kept values is a test of the values, one by one.
pub plain_map : (values : List FieldValue)
    → list_all (λ value. is_same_word value (codes "identity")) (map (λ v. v.bytes) values)
    ≡ list_all (λ v. is_same_word v.bytes (codes "identity")) values
plain_map [] = refl
plain_map (v ∷ values) = ap (λ t. is_same_word v.bytes (codes "identity") && t) (plain_map values)
