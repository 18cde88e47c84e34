-- How doubles are seen.
use Rattle.std.proofs.Common.{◌≡◌, refl, sym, ap, ◌∙◌, ℕ, ◌%◌, ◌^◌, true, false, List, [], ◌∷◌}
use Rattle.std.proofs.Common.{◌++◌, codes, Bool, ◌||◌, if◌then◌else◌, ◌<◌, length, arith}
use Rattle.std.specs.Fmt.{sign_text}
use Rattle.std.specs.List.{list_any}
use Rattle.fast_float.specs.Text.{exponent_text, text_of}
use Rattle.ryu.specs.Plain.{IsPlainNumber}
use Rattle.std.specs.Prelude.{OnOk, Result, Ok, Err, Some, is_nan, from_bits, nat_lt}
use Rattle.std.specs.Float.{Float, binary64, float_is_finite, is_sign_negative, nan, inf, fin}
use Rattle.fast_float.specs.Parse.{parse_float}
use Rattle.std.proofs.lemmas.List.{map-append}
use lib.Ieee.Bits.{nan_bits_is, nan_bits_above}
use lib.Ieee.{is_nan as nan_test}
use Rattle.json.specs.Token.{Token, number, string}
use Rattle.otlp_json.specs.Seen.{Other, Number, float_seen, is_mark, seen, seen_of}

-- Bits are those of no number exactly where, without the sign, they are above those of infinity.
pub nan_at : (bits : ℕ)
    → is_nan (from_bits binary64 bits) ≡ nat_lt 0x7ff0_0000_0000_0000 (bits % 2 ^ 63)
nan_at bits = sym (nan_bits_is binary64 bits) ∙ nan_bits_above binary64 bits

-- A double that is no number is seen as the text NaN.
pub nan_seen : (x : Float) → is_nan x ≡ true → Other (string (codes "NaN")) ≡ float_seen x
unfolding nan_test
nan_seen nan h = refl
nan_seen (inf s) h = cc
nan_seen (fin s m e) h = cc

-- An infinite double with a sign is seen as the text -Infinity.
pub minus_seen : (x : Float) → is_nan x ≡ false → float_is_finite x ≡ false
    → is_sign_negative x ≡ true → Other (string (codes "-Infinity")) ≡ float_seen x
unfolding nan_test float_is_finite is_sign_negative
minus_seen nan h f n = cc
minus_seen (inf true) h f n = refl
minus_seen (inf false) h f n = cc
minus_seen (fin s m e) h f n = cc

-- An infinite double without a sign is seen as the text Infinity.
pub plus_seen : (x : Float) → is_nan x ≡ false → float_is_finite x ≡ false
    → is_sign_negative x ≡ false → Other (string (codes "Infinity")) ≡ float_seen x
unfolding nan_test float_is_finite is_sign_negative
plus_seen nan h f n = cc
plus_seen (inf true) h f n = cc
plus_seen (inf false) h f n = refl
plus_seen (fin s m e) h f n = cc

finite_seen : (x : Float) → float_is_finite x ≡ true → Number (Some x) ≡ float_seen x
unfolding float_is_finite
finite_seen nan f = cc
finite_seen (inf s) f = cc
finite_seen (fin s m e) f = refl

-- ---- the text of a double has a point or an exponent

or_true : (b : Bool) → (b || true) ≡ true
or_true true = refl
or_true false = refl

mark_after : (a b : List ℕ) → list_any is_mark b ≡ true → list_any is_mark (a ++ b) ≡ true
mark_after [] b h = h
mark_after (x ∷ a) b h = ap (λ y. is_mark x || y) (mark_after a b h) ∙ or_true (is_mark x)

mark_of : (point : Bool) (fraction : List ℕ) (negative : Bool) (exponent : List ℕ)
    → (point ≡ false → 0 < length exponent)
    → list_any is_mark
    ((if point then 46 ∷ fraction else []) ++ exponent_text negative exponent) ≡ true
mark_of true fraction negative exponent h = refl
mark_of false fraction negative [] h = absurd (omega (arith, h refl))
mark_of false fraction negative (d ∷ ds) h = refl

plain_mark : (s : List ℕ) → IsPlainNumber s → list_any is_mark s ≡ true
plain_mark s (negative, p, is, h) =
    ap (list_any is_mark) is
    ∙ mark_after (sign_text negative) (text_of p)
    (mark_after p.whole _
    (mark_of p.point p.fraction p.exponent_negative p.exponent h.marked))

-- a number that was written
pub number_written : {T E : Type 0} (r : Result T E) (old new : List Token) (x : Float)
    → float_is_finite x ≡ true
    → OnOk r ((s : List ℕ) × (new ≡ old ++ number s ∷ []) × IsPlainNumber s
    × (parse_float binary64 s ≡ Some x))
    → OnOk r (seen new ≡ seen old ++ float_seen x ∷ [])
number_written (Ok u) old new x f (s, h, plain, p) =
    ap seen h ∙ map-append seen_of old (number s ∷ [])
    ∙ ap (λ y. seen old ++ y ∷ [])
    (ap (λ b. if b then Number (parse_float binary64 s) else Other (number s)) (plain_mark s plain)
    ∙ ap Number p ∙ finite_seen x f)
number_written (Err e) old new x f h = tt
