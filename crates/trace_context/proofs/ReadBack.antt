-- What is written of a context, as it is read.
use Rattle.std.proofs.Common.{◌≡◌, ℕ, zero, suc, ◌+◌, ◌-◌, ◌/◌, ◌%◌, ◌<◌, Bool, true, false, List}
use Rattle.std.proofs.Common.{[], ◌∷◌, ◌++◌, length, slice_index, slice_range, Some, refl, sym, ap}
use Rattle.std.proofs.Common.{◌∙◌, append_assoc, arith, codes, length-append, IsTrue}
use Rattle.std.proofs.lemmas.List.{take_at, drop_at, append-nil}
use Rattle.std.proofs.lemmas.List.Folds.{list_all_at}
use Rattle.std.proofs.lemmas.Bool.{and_parts}
use Rattle.std.specs.List.{list_all}
use Rattle.hex.specs.Hex.{IsBytes, encode_lower, encode_with, lower_digits}
use Rattle.hex.proofs.HexLemmas.{decode_sized-encode_lower, length-encode_with}
use Rattle.hex.proofs.OnLiterals.{hex_on_literals}
use Rattle.model_span.specs.Spans.{Context, is_id, is_valid}
use Rattle.trace_context.specs.Digits.{is_lower_digit, lower_bytes}
use Rattle.trace_context.specs.Traceparent.{has_dashes, id_in, is_version, kept_flags}
use Rattle.trace_context.specs.Traceparent.{remote_context, span_of, trace_of, traceparent}
use Rattle.trace_context.specs.Traceparent.{version_of}
use Rattle.trace_context.specs.Outgoing.{HasSizes, as_read, flags_text, traceparent_text}

-- ---- digits

all_digits : list_all is_lower_digit lower_digits ≡ true
unfolding is_lower_digit
all_digits = refl

-- a digit of the table is in lower case
digit_at : (k : ℕ) → k < 16 → is_lower_digit (slice_index lower_digits k) ≡ true
digit_at k below =
    let test : (b : Bool) → is_lower_digit (slice_index lower_digits k) ≡ b → b ≡ true =
    elim [
      | true ↦ λ e. refl
      | false ↦
          λ e. let all = list_all_at is_lower_digit lower_digits k 0 below e in cc (all, all_digits)
    ] in
    test (is_lower_digit (slice_index lower_digits k)) refl

-- the digits of bytes are in lower case
lower_text : (bytes : List ℕ) → IsBytes bytes → list_all is_lower_digit (encode_lower bytes) ≡ true
unfolding encode_with
lower_text [] are = refl
lower_text (b ∷ rest) are =
    let byte : b < 256 = are 0 in
    rw (digit_at (b / 16) (omega arith), digit_at (b % 16) (omega arith))
    (lower_text rest (λ i. are (suc i)))

-- they spell these bytes
spelled : (bytes : List ℕ) (n : ℕ) → length bytes ≡ n → IsBytes bytes
    → lower_bytes n (encode_lower bytes) ≡ Some bytes
unfolding lower_bytes
spelled bytes n len are = rw (lower_text bytes are, decode_sized-encode_lower bytes n len are) refl

-- ---- places

dash_after : (front back : List ℕ) → slice_index (front ++ (45 ∷ back)) (length front) ≡ 45
dash_after [] back = refl
dash_after (x ∷ front) back = dash_after front back

-- the dash at a place
dash_at : (text front back : List ℕ) (i : ℕ) → text ≡ front ++ (45 ∷ back) → length front ≡ i
    → slice_index text i ≡ 45
dash_at text front back i is len = rw (is, ← len) (dash_after front back)

-- the part at a place
part_at : (text front part back : List ℕ) (i j : ℕ) → text ≡ front ++ (part ++ back)
    → length front ≡ i → length part ≡ j - i → slice_range text i j ≡ part
part_at text front part back i j is len size =
    rw (is, drop_at front (part ++ back) i len) (take_at part back (j - i) size)

-- ---- the parts of a text

record Parts (text version trace span flags : List ℕ) : Type 0 where
  whole : length text ≡ 55
  dashes : has_dashes text ≡ true
  version_is : slice_range text 0 2 ≡ version
  trace_is : slice_range text 3 35 ≡ trace
  span_is : slice_range text 36 52 ≡ span
  flags_is : slice_range text 53 55 ≡ flags

dashed : (text : List ℕ) → slice_index text 2 ≡ 45 → slice_index text 35 ≡ 45
    → slice_index text 52 ≡ 45 → length text ≡ 55 → has_dashes text ≡ true
unfolding has_dashes
dashed text a b c len = rw (a, b, c, len) refl

parts_of : (version trace span flags : List ℕ) → length version ≡ 2 → length trace ≡ 32
    → length span ≡ 16 → length flags ≡ 2
    → Parts (version ++ (45 ∷ (trace ++ (45 ∷ (span ++ (45 ∷ flags)))))) version trace span flags
parts_of version trace span flags lv lt ls lf =
    let dash : List ℕ = 45 ∷ [] in
    let x6 : List ℕ = 45 ∷ flags in
    let x5 : List ℕ = span ++ x6 in
    let x4 : List ℕ = 45 ∷ x5 in
    let x3 : List ℕ = trace ++ x4 in
    let x2 : List ℕ = 45 ∷ x3 in
    let text : List ℕ = version ++ x2 in
    let p1 : List ℕ = version ++ dash in
    let p2 : List ℕ = p1 ++ trace in
    let p3 : List ℕ = p2 ++ dash in
    let p4 : List ℕ = p3 ++ span in
    let p5 : List ℕ = p4 ++ dash in
    let e1 : text ≡ p1 ++ x3 = sym (append_assoc version dash x3) in
    let e2 : text ≡ p2 ++ x4 = e1 ∙ sym (append_assoc p1 trace x4) in
    let e3 : text ≡ p3 ++ x5 = e2 ∙ sym (append_assoc p2 dash x5) in
    let e4 : text ≡ p4 ++ x6 = e3 ∙ sym (append_assoc p3 span x6) in
    let e5 : text ≡ p5 ++ (flags ++ []) =
    e4 ∙ sym (append_assoc p4 dash flags) ∙ ap (λ (f : List ℕ). p5 ++ f) (sym (append-nil flags)) in
    let n1 : length p1 ≡ 3 = omega (arith, length-append version dash) in
    let n2 : length p2 ≡ 35 = omega (arith, length-append p1 trace, n1) in
    let n3 : length p3 ≡ 36 = omega (arith, length-append p2 dash, n2) in
    let n4 : length p4 ≡ 52 = omega (arith, length-append p3 span, n3) in
    let n5 : length p5 ≡ 53 = omega (arith, length-append p4 dash, n4) in
    let n : length text ≡ 55 =
    ap length (e4 ∙ sym (append_assoc p4 dash flags)) ∙ omega (arith, length-append p5 flags, n5) in
    record {
      whole = n;
      dashes =
          dashed text (dash_at text version x3 2 refl lv) (dash_at text p2 x5 35 e2 n2)
          (dash_at text p4 flags 52 e4 n4) n;
      version_is = part_at text [] version x2 0 2 refl refl lv;
      trace_is = part_at text p1 trace x4 3 35 e1 n1 lt;
      span_is = part_at text p3 span x6 36 52 e3 n3 ls;
      flags_is = part_at text p5 flags [] 53 55 e5 n5 lf;
    }

-- ---- the whole

read_parts : (text version trace span flags t s f : List ℕ) → Parts text version trace span flags
    → lower_bytes 1 version ≡ Some (0 ∷ []) → trace_of trace ≡ Some t → span_of span ≡ Some s
    → lower_bytes 1 flags ≡ Some f
    → traceparent text ≡ Some (remote_context t s f)
unfolding traceparent version_of is_version
read_parts text version trace span flags t s f p v ts ss fs =
    rw (p.dashes, p.version_is, p.trace_is, p.span_is, p.flags_is, v, ts, ss, fs, p.whole) refl

valid_id : (bytes : List ℕ) → is_id bytes ≡ true → id_in bytes ≡ Some bytes
valid_id bytes valid = rw valid refl

trace_spelled : (bytes : List ℕ) → length bytes ≡ 16 → IsBytes bytes → is_id bytes ≡ true
    → trace_of (encode_lower bytes) ≡ Some bytes
unfolding trace_of
trace_spelled bytes len are valid = rw (spelled bytes 16 len are) (valid_id bytes valid)

span_spelled : (bytes : List ℕ) → length bytes ≡ 8 → IsBytes bytes → is_id bytes ≡ true
    → span_of (encode_lower bytes) ≡ Some bytes
unfolding span_of
span_spelled bytes len are valid = rw (spelled bytes 8 len are) (valid_id bytes valid)

version_spelled : lower_bytes 1 (codes "00") ≡ Some (0 ∷ [])
unfolding lower_bytes is_lower_digit hex_on_literals
version_spelled = refl

-- two digits, of which the first is `0` and the second at most `3`
small_spelled : (k : ℕ) → k < 4 → lower_bytes 1 (48 ∷ (48 + k) ∷ []) ≡ Some (k ∷ [])
unfolding lower_bytes is_lower_digit hex_on_literals
small_spelled zero below = refl
small_spelled (suc zero) below = refl
small_spelled (suc (suc zero)) below = refl
small_spelled (suc (suc (suc zero))) below = refl
small_spelled (suc (suc (suc (suc k)))) below = absurd (omega arith)

-- the flags that go out, by the flags
record Flags (flags : ℕ) : Type 0 where
  size : length (flags_text flags) ≡ 2
  spells : lower_bytes 1 (flags_text flags) ≡ Some (kept_flags flags ∷ [])

flags_spelled : (flags : ℕ) → Flags flags
flags_spelled flags =
    let below : flags % 4 < 4 = omega arith in
    record { size = refl; spells = small_spelled (flags % 4) below }

kept_twice : (flags : ℕ) → kept_flags (kept_flags flags) ≡ kept_flags flags
kept_twice flags = omega arith

-- A valid context is read back from the text of its `traceparent`, except for its state.
pub read_back : (c : Context) → HasSizes c → IsTrue (is_valid c)
    → traceparent (traceparent_text c) ≡ Some (as_read c)
unfolding traceparent_text
read_back c sizes valid =
    let ids = and_parts (is_id c.trace) (is_id c.span) valid in
    let flags = flags_spelled c.flags in
    let nt : length (encode_lower c.trace) ≡ 32 =
    omega (arith, length-encode_with lower_digits c.trace, sizes.trace.0) in
    let ns : length (encode_lower c.span) ≡ 16 =
    omega (arith, length-encode_with lower_digits c.span, sizes.span.0) in
    let parts =
    parts_of (codes "00") (encode_lower c.trace) (encode_lower c.span)
    (flags_text c.flags) refl nt ns flags.size in
    read_parts _ _ _ _ _ c.trace c.span (kept_flags c.flags ∷ []) parts version_spelled
    (trace_spelled c.trace sizes.trace.0 sizes.trace.1 ids.0)
    (span_spelled c.span sizes.span.0 sizes.span.1 ids.1) flags.spells
    ∙ ap (λ (f : ℕ). Some (record (as_read c) { flags = f })) (kept_twice c.flags)
