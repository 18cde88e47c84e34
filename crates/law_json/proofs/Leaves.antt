-- What a token means in the place of a field, where a reader sees it so.
use Rattle.std.proofs.Common.{◌≡◌, refl, sym, ap, ◌∙◌, subst, ℕ, ℤ, pos, negsuc, ◌<◌, ◌-◌, ◌^◌}
use Rattle.std.proofs.Common.{Bool, true, false, List, [], ◌∷◌, ◌++◌, length, arith, Ok, Err, Some}
use Rattle.std.proofs.Common.{codes, decimal, ◌||◌, if◌then◌else◌, zero, suc, ◌/◌, ◌%◌}
use Rattle.std.proofs.Common.{◌*◌, ◌+◌}
use Rattle.std.specs.Prelude.{replicate, slice_index}
use Rattle.std.specs.Str.Parse.{AllDigits}
use Rattle.std.proofs.lemmas.Bool.{ne_eqb}
use Rattle.std.proofs.lemmas.Float.{T_from_false}
use Rattle.std.proofs.lemmas.Fmt.{decimal_is_IsNumeral}
use Rattle.std.proofs.lemmas.Str.Parse.{digit_from_value}
use Rattle.std.specs.Prelude.{Result, is_nan, from_bits, to_bits}
use Rattle.std.specs.Int.{w64, cast_unsigned}
use Rattle.std.specs.Fmt.{signed_decimal}
use Rattle.std.specs.Float.{Float, binary64, float_is_finite, nan, inf, fin}
use Rattle.std.specs.List.{list_any}
use Rattle.std.specs.Option.{ok_or}
use Rattle.std.specs.Result.{result_ok}
use Rattle.fast_float.specs.Parse.{parse_float}
use Rattle.hex.specs.Hex as hex
use Rattle.hex.proofs.HexLemmas.{decode_of-encode_lower}
use Rattle.base64.specs.GeneralPurpose.{IsBytes, encode_of, engine_symbols}
use Rattle.base64.specs.Engines.{standard, standard_pad_indifferent}
use Rattle.base64.specs.Rfc4648.{encode_group, encode_symbols, padding_len}
use Rattle.base64.proofs.EngineFacts.{decode_of-encode_of}
use Rattle.json.specs.Token.{Token, string, number, boolean}
use Rattle.model_message.specs.Wire.{Payload, varint, i64, len, i32}
use Rattle.otlp_json.specs.Bodies.{is_null}
use Rattle.otlp_json.specs.Leaves as spec
use Rattle.otlp_json.specs.Leaves.{payload, identifier, base64_bytes, standard_bytes}
use Rattle.otlp_json.specs.Leaves.{url_safe_bytes}
use Rattle.otlp_json.specs.Leaves.{is_url_safe, double_in}
use Rattle.otlp_json.specs.Numbers.{double, quoted_double, finite_bits, nan_bits, is_at_end}
use Rattle.otlp_json.specs.declared.fault.JsonFault.{JsonFault}
use Rattle.otlp_json.specs.declared.fault.JsonFault.TheVariants as faults
use Rattle.otlp_json.specs.LeafNames.{AnyLeaf}
use Rattle.otlp_json.specs.LeafNames as leaves
use Rattle.otlp_json.specs.Seen.{Seen, Other, Number, float_seen, number_seen, is_mark}
use Rattle.law_json.specs.Back.{double_back}
use Rattle.law_json.proofs.Fronts.{Shows}
use Rattle.law_json.proofs.Numerals.{whole_decimal, whole_signed}
use lib.Signed.{mag}
use lib.Ieee.{is_nan as nan_test, to_bits as bits_of}
use lib.Ieee.Bits.{to_bits-of_bits}

-- A token that is seen so is a value, and means this payload.
abbrev pub Means : AnyLeaf → Seen → Payload → Type 0
Means leaf x p = (t : Token) → Shows x t → (is_null t ≡ false) × (payload leaf t ≡ Ok p)

-- this token means this payload
only : (leaf : AnyLeaf) (u : Token) (p : Payload) → is_null u ≡ false → payload leaf u ≡ Ok p
    → Means leaf (Other u) p
only leaf u p h q t e = (ap is_null e ∙ h, ap (payload leaf) e ∙ q)

-- A text means its bytes.
pub text_means : (t : List ℕ) → Means leaves.text (Other (string t)) (len t)
unfolding payload
text_means t = only leaves.text (string t) (len t) refl refl

-- A truth value means 1 or 0.
pub bool_means : (b : Bool)
    → Means leaves.bool (Other (boolean b)) (varint (if b then 1 else 0))
unfolding payload
bool_means b = only leaves.bool (boolean b) _ refl refl

-- Bytes in hexadecimal mean the bytes.
pub id_means : (bs : List ℕ) → IsBytes bs
    → Means leaves.id (Other (string (hex.encode_lower bs))) (len bs)
unfolding payload identifier
id_means bs h =
    only leaves.id (string (hex.encode_lower bs)) (len bs) refl
    (ap (λ r. spec.◌>>=◌ (ok_or (result_ok r) faults.BadIdentifier) (λ b. Ok (len b)))
    (decode_of-encode_lower bs h))

-- ---- Base64 of the standard alphabet

or_false : (a b : Bool) → (a || b) ≡ false → (a ≡ false) × (b ≡ false)
or_false true b h = cc
or_false false b h = (refl, h)

none_in : (t : List ℕ) (i : ℕ) → list_any is_url_safe t ≡ false
    → is_url_safe (slice_index t i) ≡ false
none_in [] i h = refl
none_in (b ∷ t) zero h = (or_false (is_url_safe b) (list_any is_url_safe t) h).0
none_in (b ∷ t) (suc i) h = none_in t i (or_false (is_url_safe b) (list_any is_url_safe t) h).1

none_after : (a b : List ℕ) → list_any is_url_safe a ≡ false → list_any is_url_safe b ≡ false
    → list_any is_url_safe (a ++ b) ≡ false
none_after [] b h k = k
none_after (x ∷ a) b h k =
    let both = or_false (is_url_safe x) (list_any is_url_safe a) h in
    rw (both.0, none_after a b both.1 k) refl

none_symbols : (t m : List ℕ) → list_any is_url_safe t ≡ false
    → list_any is_url_safe (encode_symbols t m) ≡ false
unfolding encode_symbols
none_symbols t [] h = refl
none_symbols t (a ∷ []) h = rw (none_in t (a / 4) h, none_in t (a % 4 * 16) h) refl
none_symbols t (a ∷ b ∷ []) h =
    rw (none_in t (a / 4) h, none_in t (a % 4 * 16 + b / 16) h, none_in t (b % 16 * 4) h) refl
none_symbols t (a ∷ b ∷ c ∷ rest) h = none_after (encode_group t a b c) (encode_symbols t rest)
    (rw (
      none_in t (a / 4) h,
      none_in t (a % 4 * 16 + b / 16) h,
      none_in t (b % 16 * 4 + c / 64) h,
      none_in t (c % 64) h,
    ) refl)
    (none_symbols t rest h)

none_padding : (n : ℕ) → list_any is_url_safe (replicate n 61) ≡ false
none_padding zero = refl
none_padding (suc n) = none_padding n

none_encoded : (m : List ℕ) → list_any is_url_safe (encode_of standard m) ≡ false
none_encoded m =
    none_after (encode_symbols (engine_symbols standard) m) (replicate (padding_len (length m)) 61)
    (none_symbols (engine_symbols standard) m refl) (none_padding (padding_len (length m)))

abbrev as_len : Result (List ℕ) JsonFault → Result Payload JsonFault
as_len r = spec.◌>>=◌ r (λ b. Ok (len b))

-- Bytes in Base64 mean the bytes.
pub bytes_mean : (bs : List ℕ) → IsBytes bs
    → Means leaves.bytes (Other (string (encode_of standard bs))) (len bs)
unfolding payload base64_bytes standard_bytes
bytes_mean bs h =
    let s = encode_of standard bs in
    only leaves.bytes (string s) (len bs) refl
    (ap (λ b. as_len (if b then url_safe_bytes s else standard_bytes s)) (none_encoded bs)
    ∙ ap (λ r. as_len (ok_or (result_ok r) faults.BadBase64))
    (decode_of-encode_of standard_pad_indifferent bs tt h))

-- ---- numbers

-- A whole number that is seen as its digits is seen as no other token.
digits_seen : (s : List ℕ) → list_any is_mark s ≡ false → number_seen s ≡ Other (number s)
digits_seen s h =
    ap (λ b. if b then Number (parse_float binary64 s) else Other (number s)) h

no_mark : (ds : List ℕ) → AllDigits 10 ds → list_any is_mark ds ≡ false
no_mark [] h = refl
no_mark (d ∷ ds) h =
    let r = digit_from_value d h.0 in
    rw (
      ne_eqb d 46 (λ e. omega (arith, r)),
      ne_eqb d 101 (λ e. omega (arith, r)),
      ne_eqb d 69 (λ e. omega (arith, r)),
      no_mark ds h.1,
    ) refl

-- The digits of a number are seen as these digits.
pub decimal_seen : (n : ℕ) → n < 2 ^ 64 → number_seen (decimal n) ≡ Other (number (decimal n))
decimal_seen n h = digits_seen (decimal n) (no_mark (decimal n) (decimal_is_IsNumeral n h).0.1)

-- The digits of a number with a sign are seen as these digits, after the sign.
pub signed_seen : (z : ℤ) → mag z < 2 ^ 63
    → number_seen (signed_decimal z) ≡ Other (number (signed_decimal z))
signed_seen (pos n) h = decimal_seen n (omega (arith, h))
signed_seen (negsuc n) h =
    digits_seen (45 ∷ decimal (suc n))
    (no_mark (decimal (suc n)) (decimal_is_IsNumeral (suc n) (omega (arith, h))).0.1)

-- A number of 32 bits means itself.
pub uint32_means : (n : ℕ) → n < 2 ^ 32
    → Means leaves.uint32 (number_seen (decimal n)) (varint n)
unfolding payload
uint32_means n h =
    subst (λ x. Means leaves.uint32 x (varint n)) (sym (decimal_seen n (omega (arith, h))))
    (only leaves.uint32 (number (decimal n)) (varint n) refl
    (ap (λ r. spec.◌>>=◌ r (λ k. Ok (varint k)))
    (whole_decimal n (2 ^ 32 - 1) 0 (omega (arith, h)) (omega (arith, h)))))

-- likewise of 32 bits without a varint
pub fixed32_means : (n : ℕ) → n < 2 ^ 32
    → Means leaves.fixed32 (number_seen (decimal n)) (i32 n)
unfolding payload
fixed32_means n h =
    subst (λ x. Means leaves.fixed32 x (i32 n)) (sym (decimal_seen n (omega (arith, h))))
    (only leaves.fixed32 (number (decimal n)) (i32 n) refl
    (ap (λ r. spec.◌>>=◌ r (λ k. Ok (i32 k)))
    (whole_decimal n (2 ^ 32 - 1) 0 (omega (arith, h)) (omega (arith, h)))))

-- The number of an enumeration means its bits.
pub enum_means : (z : ℤ) → mag z < 2 ^ 31
    → Means leaves.enum (number_seen (signed_decimal z)) (varint (cast_unsigned w64 z))
unfolding payload
enum_means z h =
    subst (λ x. Means leaves.enum x (varint (cast_unsigned w64 z)))
    (sym (signed_seen z (omega (arith, h))))
    (only leaves.enum (number (signed_decimal z)) (varint (cast_unsigned w64 z)) refl
    (ap (λ r. spec.◌>>=◌ r (λ k. Ok (varint k)))
    (whole_signed z (2 ^ 31 - 1) (2 ^ 31) (omega (arith, h)) (omega (arith, h)) h)))

-- A number of 64 bits with a sign means its bits.
pub int_means : (z : ℤ) → mag z < 2 ^ 63
    → Means leaves.int64 (Other (string (signed_decimal z))) (varint (cast_unsigned w64 z))
unfolding payload
int_means z h =
    only leaves.int64 (string (signed_decimal z)) (varint (cast_unsigned w64 z)) refl
    (ap (λ r. spec.◌>>=◌ r (λ k. Ok (varint k)))
    (whole_signed z (2 ^ 63 - 1) (2 ^ 63) h (omega (arith, h)) h))

-- A number of 64 bits without a sign means itself.
pub long_means : (n : ℕ) → n < 2 ^ 64
    → Means leaves.fixed64 (Other (string (decimal n))) (i64 n)
unfolding payload
long_means n h =
    only leaves.fixed64 (string (decimal n)) (i64 n) refl
    (ap (λ r. spec.◌>>=◌ r (λ k. Ok (i64 k)))
    (whole_decimal n (2 ^ 64 - 1) 0 h (omega (arith, h))))

-- ---- doubles

bits_kept : (bits : ℕ) (f : Float) → bits < 2 ^ 64 → from_bits binary64 bits ≡ f
    → nan_test f ≡ false → to_bits binary64 f ≡ bits
bits_kept bits f small is h =
    ap (to_bits binary64) (sym is)
    ∙ to_bits-of_bits binary64 bits small (T_from_false _ (ap nan_test is ∙ h))

abbrev as_i64 : Result ℕ JsonFault → Result Payload JsonFault
as_i64 r = spec.◌>>=◌ r (λ n. Ok (i64 n))

number_means : (bits : ℕ) (s : Bool) (m : ℕ) (e : ℤ) → bits < 2 ^ 64
    → from_bits binary64 bits ≡ fin s m e
    → Means leaves.double (Number (Some (fin s m e))) (i64 (double_back bits))
unfolding payload double_in double nan_test float_is_finite
number_means bits s m e small is t (text, is_number, whole_text, reads) = (
  ap is_null is_number,
  ap (payload leaves.double) is_number
      ∙ ap (λ r. as_i64 (if is_at_end r then finite_bits (parse_float binary64 text)
      else Err faults.BadNumber)) whole_text
      ∙ ap (λ r. as_i64 (finite_bits r)) reads
      ∙ ap (λ n. Ok (i64 n)) (bits_kept bits (fin s m e) small is refl)
      ∙ ap (λ g. Ok (i64 (if is_nan g then nan_bits else bits))) (sym is),
)

double_is : (bits : ℕ) → bits < 2 ^ 64 → (f : Float) → from_bits binary64 bits ≡ f
    → Means leaves.double (float_seen f) (i64 (double_back bits))
unfolding payload double_in quoted_double nan_test bits_of
double_is bits small nan is =
    only leaves.double (string (codes "NaN")) (i64 (double_back bits)) refl
    (ap (λ g. Ok (i64 (if is_nan g then nan_bits else bits))) (sym is))
double_is bits small (inf true) is =
    only leaves.double (string (codes "-Infinity")) (i64 (double_back bits)) refl
    (ap (λ n. Ok (i64 n)) (bits_kept bits (inf true) small is refl)
    ∙ ap (λ g. Ok (i64 (if is_nan g then nan_bits else bits))) (sym is))
double_is bits small (inf false) is =
    only leaves.double (string (codes "Infinity")) (i64 (double_back bits)) refl
    (ap (λ n. Ok (i64 n)) (bits_kept bits (inf false) small is refl)
    ∙ ap (λ g. Ok (i64 (if is_nan g then nan_bits else bits))) (sym is))
double_is bits small (fin s m e) is = number_means bits s m e small is

-- A double means its bits, or those of the one that is no number.
pub double_means : (bits : ℕ) → bits < 2 ^ 64
    → Means leaves.double (float_seen (from_bits binary64 bits)) (i64 (double_back bits))
double_means bits small = double_is bits small (from_bits binary64 bits) refl
