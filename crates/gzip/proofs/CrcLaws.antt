-- CRC-32 by a table: the division is linear, so that a byte's eight steps can be looked up.
use Rattle.std.proofs.Common.{◌≡◌, refl, sym, ap, ap₂, ◌∙◌, ℕ, zero, suc, ◌+◌, ◌*◌, ◌/◌, ◌%◌, ◌^◌}
use Rattle.std.proofs.Common.{◌<◌, ◌≤◌, List, ◌∷◌, length, arith, ◌==◌, cond, bit_xor, inl, inr}
use Rattle.std.proofs.Common.{eq-eqb, ne_eqb, mul-one, pow-suc, mul_assoc, zero-mul, add-zero}
use Rattle.std.proofs.Common.{zero-add, suc-add, get_or, take, drop, bit_and, ◌-◌, [], ◌++◌}
use Rattle.std.proofs.lemmas.Bool.{cases_eq}
use Rattle.std.proofs.lemmas.Nat.{xor_comm, xor_shr, xor_mod, xor_block, and_mask, mod_below}
use Rattle.std.proofs.lemmas.Nat.{pow_pos, shr_split}
use Rattle.std.specs.Int.{w64, from_le_bytes}
use Rattle.std.proofs.lemmas.List.{length-take-le, take-append-drop}
use Rattle.gzip.proofs.BitLaws.{spelled, eight-spelled, take-bytes}
use lib.Bits.{xor_zero_l, xor_zero_r, xor_assoc}
use Rattle.std.proofs.lemmas.List.{drop_more, drop_all}
use Rattle.gzip.specs.Tables.{IsCrcTable, AreCrcEntries}
use Rattle.model_deflate.specs.Crc.{divided, divided_by, crc_byte, crc_bytes}

-- the polynomial where the lowest bit is 1
abbrev poly : ℕ → ℕ
poly bit = cond (bit == 1) 0xedb88320 0

divided-is : (c : ℕ) → divided c ≡ bit_xor (poly (c % 2)) (c / 2)
unfolding divided
divided-is c = elim (cases_eq (c % 2) 1) [
  | inl e ↦ rw (eq-eqb (c % 2) 1 e) refl
  | inr e ↦ rw (ne_eqb (c % 2) 1 e) (sym (xor_zero_l (c / 2)))
]

-- A step without a choice.
pub divided-product : (c : ℕ) → divided c ≡ bit_xor (c / 2) (0xedb88320 * (c % 2))
divided-product c =
    let p : poly (c % 2) ≡ 0xedb88320 * (c % 2) = elim (cases_eq (c % 2) 1) [
      | inl e ↦ rw (e) refl
      | inr e ↦ let z : c % 2 ≡ 0 = omega arith in rw (z) refl
    ] in
    divided-is c ∙ (ap (λ x. bit_xor x (c / 2)) p ∙ xor_comm (0xedb88320 * (c % 2)) (c / 2))

poly-xor : (a b : ℕ) → a < 2 → b < 2 → poly (bit_xor a b) ≡ bit_xor (poly a) (poly b)
poly-xor a b l m = elim (cases_eq a 0) [
  | inl e ↦ elim (cases_eq b 0) [
    | inl f ↦ rw (e, f) refl
    | inr f ↦ let g : b ≡ 1 = omega arith in rw (e, g) refl
  ]
  | inr e ↦ let h : a ≡ 1 = omega arith in elim (cases_eq b 0) [
    | inl f ↦ rw (h, f) refl
    | inr f ↦ let g : b ≡ 1 = omega arith in rw (h, g) refl
  ]
]

crossed : (p q a b : ℕ) → bit_xor (bit_xor p q) (bit_xor a b) ≡ bit_xor (bit_xor p a) (bit_xor q b)
crossed p q a b =
    xor_assoc p q (bit_xor a b)
    ∙ (ap (bit_xor p)
    (sym (xor_assoc q a b) ∙ (ap (λ x. bit_xor x b) (xor_comm q a) ∙ xor_assoc a q b))
    ∙ sym (xor_assoc p a (bit_xor q b)))

divided-xor : (x y : ℕ) → divided (bit_xor x y) ≡ bit_xor (divided x) (divided y)
divided-xor x y =
    let low : bit_xor x y % 2 ≡ bit_xor (x % 2) (y % 2) = xor_mod x y 1 in
    let high : bit_xor x y / 2 ≡ bit_xor (x / 2) (y / 2) = xor_shr x y 1 in
    let parts : poly (bit_xor (x % 2) (y % 2)) ≡ bit_xor (poly (x % 2)) (poly (y % 2)) =
    poly-xor (x % 2) (y % 2) (omega arith) (omega arith) in
    divided-is (bit_xor x y)
    ∙ (ap₂ (λ a b. bit_xor (poly a) b) low high
    ∙ (ap (λ a. bit_xor a (bit_xor (x / 2) (y / 2))) parts
    ∙ (crossed (poly (x % 2)) (poly (y % 2)) (x / 2) (y / 2)
    ∙ ap₂ bit_xor (sym (divided-is x)) (sym (divided-is y)))))

steps-xor : (n x y : ℕ) → divided_by n (bit_xor x y) ≡ bit_xor (divided_by n x) (divided_by n y)
unfolding divided_by
steps-xor zero x y = refl
steps-xor (suc n) x y = ap (divided_by n) (divided-xor x y) ∙ steps-xor n (divided x) (divided y)

divided-even : (h : ℕ) → divided (h * 2) ≡ h
divided-even h =
    let low : h * 2 % 2 ≡ 0 = omega arith in
    let high : h * 2 / 2 ≡ h = omega arith in
    divided-is (h * 2) ∙ (ap₂ (λ a b. bit_xor (poly a) b) low high ∙ xor_zero_l h)

-- zeros below are shifted out
steps-shifted : (k h : ℕ) → divided_by k (h * 2 ^ k) ≡ h
unfolding divided_by
steps-shifted zero h = mul-one h
steps-shifted (suc k) h =
    let e : h * 2 ^ suc k ≡ h * 2 ^ k * 2 =
    ap (λ x. h * x) (pow-suc 2 k) ∙ sym (mul_assoc h (2 ^ k) 2) in
    ap (λ x. divided_by k (divided x)) e
    ∙ (ap (divided_by k) (divided-even (h * 2 ^ k)) ∙ steps-shifted k h)

-- So many steps, and then so many.
pub steps-add : (m n x : ℕ) → divided_by (m + n) x ≡ divided_by n (divided_by m x)
unfolding divided_by
steps-add zero n x = ap (λ k. divided_by k x) (zero-add n)
steps-add (suc m) n x = ap (λ k. divided_by k x) (suc-add m n) ∙ steps-add m n (divided x)

-- the lower bits and the others
halves : (k x : ℕ) → x ≡ bit_xor (x % 2 ^ k) (x / 2 ^ k * 2 ^ k)
halves k x =
    let low : x % 2 ^ k < 2 ^ k = mod_below x (2 ^ k) (pow_pos k) in
    let block : bit_xor (0 * 2 ^ k + x % 2 ^ k) (x / 2 ^ k * 2 ^ k + 0)
    ≡ bit_xor 0 (x / 2 ^ k) * 2 ^ k + bit_xor (x % 2 ^ k) 0 =
    xor_block k 0 (x / 2 ^ k) (x % 2 ^ k) 0 low (pow_pos k) in
    let left : 0 * 2 ^ k + x % 2 ^ k ≡ x % 2 ^ k = rw (zero-mul, zero-add) refl in
    let right : bit_xor 0 (x / 2 ^ k) * 2 ^ k + bit_xor (x % 2 ^ k) 0 ≡ x =
    ap₂ (λ a b. a * 2 ^ k + b) (xor_zero_l (x / 2 ^ k)) (xor_zero_r (x % 2 ^ k)) ∙ shr_split x k in
    sym right ∙ (sym block ∙ ap₂ bit_xor left (add-zero (x / 2 ^ k * 2 ^ k)))

-- The steps of a number: those of its lowest byte, and those of the others without its eight.
pub steps-byte : (n x : ℕ)
    → divided_by (8 + n) x
    ≡ bit_xor (divided_by (8 + n) (x % 256)) (divided_by n (x / 256))
steps-byte n x =
    ap (divided_by (8 + n)) (halves 8 x)
    ∙ (steps-xor (8 + n) (x % 256) (x / 256 * 256)
    ∙ ap (bit_xor (divided_by (8 + n) (x % 256)))
    (steps-add 8 n (x / 256 * 256) ∙ ap (divided_by n) (steps-shifted 8 (x / 256))))

-- The eight steps of a number, by those of its lowest byte.
pub steps-lowest : (x : ℕ) → bit_xor (divided_by 8 (x % 256)) (x / 256) ≡ divided_by 8 x
unfolding divided_by
steps-lowest x = sym (steps-byte 0 x)

-- a byte by the table
byte-by_table : (c byte : ℕ) → byte < 256
    → crc_byte c byte ≡ bit_xor (divided_by 8 (bit_xor c byte % 256)) (c / 256)
unfolding crc_byte
byte-by_table c byte l =
    let high : bit_xor c byte / 256 ≡ c / 256 =
    xor_shr c byte 8
    ∙ (ap (bit_xor (c / 256)) (let z : byte / 256 ≡ 0 = omega arith in z) ∙ xor_zero_r (c / 256)) in
    sym (steps-lowest (bit_xor c byte))
    ∙ ap (bit_xor (divided_by 8 (bit_xor c byte % 256))) high

-- the entries of bytes alone
first-entries : (table : List ℕ) (i : ℕ) → IsCrcTable table → i < 256
    → get_or table i 0 ≡ divided_by 8 i
first-entries table i t l =
    let none : i / 256 ≡ 0 = omega arith in
    let same : i % 256 ≡ i = omega arith in
    t.exact i (omega arith) ∙ ap₂ (λ k b. divided_by (8 * (k + 1)) b) none same

-- one byte of bytes, by a table
pub crc-more : (table : List ℕ) (s byte i : ℕ) (bytes : List ℕ) → IsCrcTable table → byte < 256
    → i < length bytes → get_or bytes i 0 ≡ byte
    → crc_bytes (bit_xor (get_or table (bit_and (bit_xor s byte) 255) 0) (s / 256))
    (drop (i + 1) bytes)
    ≡ crc_bytes s (drop i bytes)
unfolding crc_bytes
crc-more table s byte i bytes t l k is =
    let index : bit_and (bit_xor s byte) 255 ≡ bit_xor s byte % 256 = and_mask (bit_xor s byte) 8 in
    let entry : get_or table (bit_and (bit_xor s byte) 255) 0
    ≡ divided_by 8 (bit_xor s byte % 256) =
    ap (λ n. get_or table n 0) index ∙ first-entries table (bit_xor s byte % 256) t (omega arith) in
    let step : bit_xor (get_or table (bit_and (bit_xor s byte) 255) 0) (s / 256) ≡ crc_byte s byte =
    ap (λ x. bit_xor x (s / 256)) entry ∙ sym (byte-by_table s byte l) in
    let rest : drop i bytes ≡ byte ∷ drop (i + 1) bytes =
    drop_more bytes i 0 k ∙ ap (λ x. x ∷ drop (i + 1) bytes) is in
    ap (λ x. crc_bytes x (drop (i + 1) bytes)) step ∙ sym (ap (crc_bytes s) rest)

-- After the last byte the state is the answer.
pub crc-all : (s i : ℕ) (bytes : List ℕ) → length bytes ≤ i → crc_bytes s (drop i bytes) ≡ s
unfolding crc_bytes
crc-all s i bytes l = ap (crc_bytes s) (drop_all i bytes l)

-- ---- the entries

-- The entry 256 places on has eight steps more.
pub entry-later : (entries : List ℕ) (i before : ℕ) → AreCrcEntries entries i → 256 ≤ i
    → before ≡ get_or entries (i - 256) 0
    → bit_xor (get_or entries (bit_and before 255) 0) (before / 256)
    ≡ divided_by (8 * (i / 256 + 1)) (i % 256)
entry-later entries i before are l is =
    let index : bit_and before 255 ≡ before % 256 = and_mask before 8 in
    let none : before % 256 / 256 ≡ 0 = omega arith in
    let same : before % 256 % 256 ≡ before % 256 = omega arith in
    let lowest : get_or entries (bit_and before 255) 0 ≡ divided_by 8 (before % 256) =
    ap (λ n. get_or entries n 0) index
    ∙ (are (before % 256) (omega arith) ∙ ap₂ (λ k b. divided_by (8 * (k + 1)) b) none same) in
    let j = i - 256 in
    let earlier : before ≡ divided_by (8 * (j / 256 + 1)) (j % 256) = is ∙ are j (omega arith) in
    let steps : 8 * (j / 256 + 1) + 8 ≡ 8 * (i / 256 + 1) = omega arith in
    let byte : j % 256 ≡ i % 256 = omega arith in
    ap (λ x. bit_xor x (before / 256)) lowest
    ∙ (steps-lowest before
    ∙ (ap (divided_by 8) earlier
    ∙ (sym (steps-add (8 * (j / 256 + 1)) 8 (j % 256)) ∙ ap₂ divided_by steps byte)))

-- The entry of a byte before some others.
pub entry-at : (table : List ℕ) (k word : ℕ) → IsCrcTable table → k < 16
    → get_or table (256 * k + bit_and word 255) 0 ≡ divided_by (8 * (k + 1)) (word % 256)
entry-at table k word t l =
    let index : 256 * k + bit_and word 255 ≡ 256 * k + word % 256 =
    ap (λ n. 256 * k + n) (and_mask word 8) in
    let part : (256 * k + word % 256) / 256 ≡ k = omega arith in
    let byte : (256 * k + word % 256) % 256 ≡ word % 256 = omega arith in
    ap (λ n. get_or table n 0) index
    ∙ (t.exact (256 * k + word % 256) (omega arith)
    ∙ ap₂ (λ p b. divided_by (8 * (p + 1)) b) part byte)

-- ---- words

-- One more byte of a word, after what its lower bytes come to.
word-more : (m n acc x rest : ℕ) → m ≡ 8 + n → x / 256 ≡ rest
    → bit_xor acc (divided_by m x)
    ≡ bit_xor (bit_xor acc (divided_by m (x % 256))) (divided_by n rest)
word-more m n acc x rest steps e =
    ap (λ k. bit_xor acc (divided_by k x)) steps
    ∙ (ap (bit_xor acc) (steps-byte n x)
    ∙ (sym (xor_assoc acc (divided_by (8 + n) (x % 256)) (divided_by n (x / 256)))
    ∙ ap₂ (λ k y. bit_xor (bit_xor acc (divided_by k (x % 256))) (divided_by n y)) (sym steps) e))

-- a byte below others
low-byte : (h b : ℕ) → b < 256 → h * 256 + b ≡ bit_xor (h * 256) b
low-byte h b l =
    let low : (h * 256 + b) % 256 ≡ b = omega arith in
    let high : (h * 256 + b) / 256 ≡ h = omega arith in
    halves 8 (h * 256 + b)
    ∙ (ap₂ (λ x y. bit_xor x (y * 256)) low high ∙ xor_comm b (h * 256))

-- The state after bytes is what the steps of them all make of the number that they spell.
crc-spelled : (c : ℕ) (bs : List ℕ) → ((k : ℕ) → get_or bs k 0 < 256)
    → crc_bytes c bs ≡ divided_by (8 * length bs) (bit_xor (spelled bs) c)
unfolding crc_bytes crc_byte divided_by
crc-spelled c [] small = sym (xor_zero_l c)
crc-spelled c (b ∷ bs) small =
    let h = spelled bs in
    let n = 8 * length bs in
    let first : divided_by 8 (bit_xor (h * 256 + b) c) ≡ bit_xor h (divided_by 8 (bit_xor c b)) =
    ap (λ x. divided_by 8 (bit_xor x c)) (low-byte h b (small 0))
    ∙ (ap (divided_by 8) (xor_assoc (h * 256) b c)
    ∙ (steps-xor 8 (h * 256) (bit_xor b c)
    ∙ ap₂ (λ x y. bit_xor x (divided_by 8 y)) (steps-shifted 8 h) (xor_comm b c))) in
    let steps : 8 * length (b ∷ bs) ≡ 8 + n = omega arith in
    crc-spelled (divided_by 8 (bit_xor c b)) bs (λ k. small (suc k))
    ∙ (ap (divided_by n) (sym first)
    ∙ (sym (steps-add 8 n (bit_xor (h * 256 + b) c))
    ∙ ap (λ k. divided_by k (bit_xor (h * 256 + b) c)) (sym steps)))

-- bytes, and then others
crc-append : (c : ℕ) (xs ys : List ℕ) → crc_bytes c (xs ++ ys) ≡ crc_bytes (crc_bytes c xs) ys
unfolding crc_bytes
crc-append c [] ys = refl
crc-append c (x ∷ xs) ys = crc-append (crc_byte c x) xs ys

-- The eight bytes that are next, and then the others.
pub crc-word : (s word : ℕ) (bytes eight rest : List ℕ) → eight ≡ take 8 bytes → rest ≡ drop 8 bytes
    → 8 ≤ length bytes
    → ((k : ℕ) → get_or bytes k 0 < 256)
    → word ≡ from_le_bytes w64 eight
    → crc_bytes (divided_by 64 (bit_xor word s)) rest ≡ crc_bytes s bytes
crc-word s word bytes eight rest first later there small is =
    let long : length eight ≡ 8 = ap length first ∙ length-take-le 8 bytes there in
    let bytes_are : (k : ℕ) → get_or eight k 0 < 256 = λ k. rw first (take-bytes 8 bytes small k) in
    let steps : crc_bytes s eight ≡ divided_by 64 (bit_xor word s) =
    crc-spelled s eight bytes_are
    ∙ ap₂ (λ n w. divided_by n (bit_xor w s))
    (let e : 8 * length eight ≡ 64 = omega (arith, long) in e)
    (sym (is ∙ eight-spelled eight long)) in
    let whole : bytes ≡ eight ++ rest =
    sym (take-append-drop 8 bytes)
    ∙ ap₂ (λ (xs : List ℕ) (ys : List ℕ). xs ++ ys) (sym first) (sym later) in
    ap (λ c. crc_bytes c rest) (sym steps)
    ∙ (sym (crc-append s eight rest) ∙ ap (crc_bytes s) (sym whole))

-- The steps of a word are those of its bytes, each before those above it and so many others.
pub steps-word : (k w : ℕ) → w < 2 ^ 64
    → bit_xor (bit_xor (bit_xor (bit_xor (bit_xor (bit_xor (bit_xor
    (divided_by (8 * (k + 7 + 1)) (w % 256))
    (divided_by (8 * (k + 6 + 1)) (w / 2 ^ 8 % 256)))
    (divided_by (8 * (k + 5 + 1)) (w / 2 ^ 16 % 256)))
    (divided_by (8 * (k + 4 + 1)) (w / 2 ^ 24 % 256)))
    (divided_by (8 * (k + 3 + 1)) (w / 2 ^ 32 % 256)))
    (divided_by (8 * (k + 2 + 1)) (w / 2 ^ 40 % 256)))
    (divided_by (8 * (k + 1 + 1)) (w / 2 ^ 48 % 256)))
    (divided_by (8 * (k + 1)) (w / 2 ^ 56 % 256))
    ≡ divided_by (64 + 8 * k) w
steps-word k w l =
    let n7 = 8 * (k + 7 + 1) in
    let n6 = 8 * (k + 6 + 1) in
    let n5 = 8 * (k + 5 + 1) in
    let n4 = 8 * (k + 4 + 1) in
    let n3 = 8 * (k + 3 + 1) in
    let n2 = 8 * (k + 2 + 1) in
    let n1 = 8 * (k + 1 + 1) in
    let n0 = 8 * (k + 1) in
    let a = divided_by n7 (w % 256) in
    let b = bit_xor a (divided_by n6 (w / 2 ^ 8 % 256)) in
    let c = bit_xor b (divided_by n5 (w / 2 ^ 16 % 256)) in
    let d = bit_xor c (divided_by n4 (w / 2 ^ 24 % 256)) in
    let e = bit_xor d (divided_by n3 (w / 2 ^ 32 % 256)) in
    let f = bit_xor e (divided_by n2 (w / 2 ^ 40 % 256)) in
    let g = bit_xor f (divided_by n1 (w / 2 ^ 48 % 256)) in
    let last : w / 2 ^ 56 % 256 ≡ w / 2 ^ 56 = omega arith in
    let whole : n7 ≡ 64 + 8 * k = omega arith in
    ap (λ x. bit_xor g (divided_by n0 x)) last
    ∙ sym (ap (λ n. divided_by n w) (sym whole)
    ∙ (sym (xor_zero_l (divided_by n7 w))
    ∙ (word-more n7 n6 0 w (w / 2 ^ 8) (omega arith) (omega arith)
    ∙ (ap (λ x. bit_xor x (divided_by n6 (w / 2 ^ 8))) (xor_zero_l a)
    ∙ (word-more n6 n5 a (w / 2 ^ 8) (w / 2 ^ 16) (omega arith) (omega arith)
    ∙ (word-more n5 n4 b (w / 2 ^ 16) (w / 2 ^ 24) (omega arith) (omega arith)
    ∙ (word-more n4 n3 c (w / 2 ^ 24) (w / 2 ^ 32) (omega arith) (omega arith)
    ∙ (word-more n3 n2 d (w / 2 ^ 32) (w / 2 ^ 40) (omega arith) (omega arith)
    ∙ (word-more n2 n1 e (w / 2 ^ 40) (w / 2 ^ 48) (omega arith) (omega arith)
    ∙ word-more n1 n0 f (w / 2 ^ 48) (w / 2 ^ 56) (omega arith) (omega arith))))))))))

-- The steps of one word, and then of another, can be looked up side by side.
pub words-side_by_side : (x y : ℕ)
    → bit_xor (divided_by 64 y) (divided_by 128 x) ≡ divided_by 64 (bit_xor y (divided_by 64 x))
words-side_by_side x y =
    ap (bit_xor (divided_by 64 y)) (steps-add 64 64 x) ∙ sym (steps-xor 64 y (divided_by 64 x))
