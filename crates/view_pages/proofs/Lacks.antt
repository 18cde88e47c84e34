-- Texts in which no tag begins.
use Rattle.std.proofs.Common.{◌≡◌, refl, ℕ, zero, suc, ◌+◌, ◌/◌, ◌%◌, ◌≤◌, Bool, true, false, not}
use Rattle.std.proofs.Common.{◌&&◌, ◌==◌, cond, nat_lt, List, [], ◌∷◌, ◌++◌, get_or, arith, ℤ, pos}
use Rattle.std.proofs.Common.{negsuc, encode_utf8_all}
use Rattle.std.specs.Prelude.{decimal}
use Rattle.std.specs.Fmt.{digit_glyph, digits, digits_onto, signed_decimal}
use Rattle.std.specs.Str.{chars}
use lib.Utf8.{encode, next}
use Rattle.hex.specs.Hex.{encode_lower, encode_with, lower_digits}
use Rattle.page_text.specs.Written.{char_markup, shown_char, text_markup}

-- whether no tag begins in a text: it has no `<` (60)
abbrev pub lacks : List ℕ → Bool
lacks [] = true
lacks (b ∷ bs) = not (b == 60) && lacks bs

both : (a b : Bool) → a ≡ true → b ≡ true → (a && b) ≡ true
both true b p q = q
both false b p q = cc

parts : (a b : Bool) → (a && b) ≡ true → (a ≡ true) × (b ≡ true)
parts true b h = (refl, h)
parts false b h = cc

-- a byte more
other : (b : ℕ) → (b ≡ 60 → ⊥) → not (b == 60) ≡ true
other b h = grind arith

one_more : (b : ℕ) (bs : List ℕ) → (b ≡ 60 → ⊥) → lacks bs ≡ true → lacks (b ∷ bs) ≡ true
one_more b bs h rest = both (not (b == 60)) (lacks bs) (other b h) rest

-- one text after another
pub lacks_append : (xs ys : List ℕ) → lacks xs ≡ true → lacks ys ≡ true → lacks (xs ++ ys) ≡ true
lacks_append [] ys h k = k
lacks_append (x ∷ xs) ys h k =
    let p = parts (not (x == 60)) (lacks xs) h in
    both (not (x == 60)) (lacks (xs ++ ys)) p.0 (lacks_append xs ys p.1 k)

-- one of two texts
pub lacks_cond : (x : Bool) (a b : List ℕ) → (x ≡ true → lacks a ≡ true)
    → (x ≡ false → lacks b ≡ true) → lacks (cond x a b) ≡ true
lacks_cond true a b f g = f refl
lacks_cond false a b f g = g refl

high : (b : ℕ) (bs : List ℕ) → 128 ≤ b → lacks bs ≡ true → lacks (b ∷ bs) ≡ true
high b bs h rest = one_more b bs (λ e. omega arith) rest

last : (c : ℕ) → lacks (next c ∷ []) ≡ true
last c = high (next c) [] (omega arith) refl

last_two : (b c : ℕ) → lacks (next b ∷ next c ∷ []) ≡ true
last_two b c = high (next b) (next c ∷ []) (omega arith) (last c)

-- a character that is no `<` has no byte that is
lacks_encode : (c : ℕ) → (c ≡ 60 → ⊥) → lacks (encode c) ≡ true
unfolding encode
lacks_encode c h =
    lacks_cond (nat_lt c 128) _ _ (λ e. one_more c [] h refl) (λ e.
    lacks_cond (nat_lt c 2048) _ _ (λ e. high (192 + c / 64) (next c ∷ []) (omega arith) (last c))
    (λ e.
    lacks_cond (nat_lt c 65536) _ _
    (λ e. high (224 + c / 4096) (next (c / 64) ∷ next c ∷ []) (omega arith) (last_two (c / 64) c))
    (λ e.
    high (240 + c / 262144) (next (c / 4096) ∷ next (c / 64) ∷ next c ∷ []) (omega arith)
    (high (next (c / 4096)) (next (c / 64) ∷ next c ∷ []) (omega arith) (last_two (c / 64) c)))))

same_byte : (c : ℕ) → not (c == 60) ≡ true → c ≡ 60 → ⊥
same_byte c h e = grind arith

-- Characters without `<` have no `<` in their UTF-8.
pub lacks_encodes : (cs : List ℕ) → lacks cs ≡ true → lacks (encode_utf8_all cs) ≡ true
lacks_encodes [] h = refl
lacks_encodes (c ∷ cs) h =
    let p = parts (not (c == 60)) (lacks cs) h in
    lacks_append (encode c) (encode_utf8_all cs) (lacks_encode c (same_byte c p.0))
    (lacks_encodes cs p.1)

-- a character in a page
shown_other : (c : ℕ) → (c == 60) ≡ false → shown_char c ≡ 60 → ⊥
shown_other c h e = grind arith

lacks_char : (c : ℕ) → lacks (char_markup c) ≡ true
unfolding char_markup
lacks_char c =
    lacks_cond (c == 38) _ _ (λ e. refl) (λ e.
    lacks_cond (c == 60) _ _ (λ e. refl) (λ lt.
    lacks_cond (c == 62) _ _ (λ e. refl) (λ e.
    lacks_cond (c == 34) _ _ (λ e. refl) (λ e.
    lacks_cond (c == 39) _ _ (λ e. refl) (λ e.
    lacks_cond (c == 13) _ _ (λ e. refl)
    (λ e. one_more (shown_char c) [] (shown_other c lt) refl))))))

lacks_chars : (cs : List ℕ) → lacks (text_markup cs) ≡ true
lacks_chars [] = refl
lacks_chars (c ∷ cs) = lacks_append (char_markup c) (text_markup cs) (lacks_char c) (lacks_chars cs)

-- a text from outside
pub lacks_text : (text : List ℕ) → lacks (encode_utf8_all (text_markup (chars text))) ≡ true
lacks_text text = lacks_encodes (text_markup (chars text)) (lacks_chars (chars text))

-- a number
glyph_other : (d : ℕ) → digit_glyph false d ≡ 60 → ⊥
glyph_other d e = grind arith

lacks_onto : (k n : ℕ) (acc : List ℕ) → lacks acc ≡ true
    → lacks (digits_onto k 10 false n acc) ≡ true
lacks_onto zero n acc h = h
lacks_onto (suc k) n acc h =
    let more : lacks (digit_glyph false (n % 10) ∷ acc) ≡ true =
    one_more (digit_glyph false (n % 10)) acc (glyph_other (n % 10)) h in
    lacks_cond (n / 10 == 0) _ _ (λ e. more)
    (λ e. lacks_onto k (n / 10) (digit_glyph false (n % 10) ∷ acc) more)

-- A number in decimal digits has no `<`.
pub lacks_decimal : (n : ℕ) → lacks (decimal n) ≡ true
unfolding digits
lacks_decimal n = lacks_onto 64 n [] refl

-- A signed number in decimal digits has no `<`.
pub lacks_signed : (z : ℤ) → lacks (signed_decimal z) ≡ true
lacks_signed (pos n) = lacks_decimal n
lacks_signed (negsuc n) = one_more 45 (decimal (suc n)) (λ k. omega arith) (lacks_decimal (suc n))

-- bytes by their digits
lacks_at : (xs : List ℕ) (k : ℕ) → lacks xs ≡ true → get_or xs k 0 ≡ 60 → ⊥
lacks_at [] k h e = omega arith
lacks_at (x ∷ xs) zero h e = same_byte x (parts (not (x == 60)) (lacks xs) h).0 e
lacks_at (x ∷ xs) (suc k) h e = lacks_at xs k (parts (not (x == 60)) (lacks xs) h).1 e

-- Bytes in hexadecimal digits have no `<`.
pub lacks_digits : (bytes : List ℕ) → lacks (encode_lower bytes) ≡ true
unfolding encode_with
lacks_digits [] = refl
lacks_digits (b ∷ bytes) =
    one_more (get_or lower_digits (b / 16) 0) (get_or lower_digits (b % 16) 0 ∷ encode_lower bytes)
    (lacks_at lower_digits (b / 16) refl)
    (one_more (get_or lower_digits (b % 16) 0) (encode_lower bytes)
    (lacks_at lower_digits (b % 16) refl) (lacks_digits bytes))
