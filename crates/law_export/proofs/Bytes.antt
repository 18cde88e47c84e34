-- Visible bytes, of which hosts, numbers and the names of a request are made.
use Rattle.std.proofs.Common.{◌≡◌, ℕ, zero, suc, ◌+◌, ◌-◌, ◌==◌, ◌<◌, ◌≤◌, ◌^◌, Bool, true, false}
use Rattle.std.proofs.Common.{◌&&◌, nat_lt, IsTrue, List, [], ◌∷◌, length, take, slice_index}
use Rattle.std.proofs.Common.{reverse, refl, sym, subst, arith, inl, inr}
use Rattle.std.specs.Prelude.{All, nat_le, decimal}
use Rattle.std.specs.List.{list_all, list_any}
use Rattle.std.proofs.lemmas.Bool.{and_parts, eqb-true, leb-true, or_cases}
use Rattle.std.specs.Char.{is_ascii_digit}
use Rattle.std.specs.Str.Parse.{AllDigits, digits_value}
use Rattle.std.proofs.lemmas.Bool.Decides.{nat_tests}
use Rattle.std.proofs.lemmas.Fmt.{decimal_is_IsNumeral}
use Rattle.std.proofs.lemmas.List.Elements.{All-weaker, All-head, All-nil, All-cons}
use Rattle.std.proofs.lemmas.List.Sums.{AllPass-from_list_all}
use Rattle.httparse.specs.Grammar.{AllPass, is_ows, is_value_byte, skip_ows, trim_ows}
use Rattle.httparse.proofs.TrimLemmas.{AllPass-reverse, trim_ows_space}
use Rattle.http_wire.specs.Fields.{is_length}
use Rattle.otlp_http.specs.Address.{inside, is_address, is_address_byte, is_colon, is_host}
use Rattle.otlp_http.specs.Address.{is_host_byte, is_literal, is_name}

-- from `!` to `~`
abbrev pub is_visible : ℕ → Bool
is_visible b = nat_le 33 b && nat_lt b 127

abbrev pub AreVisible : List ℕ → Type 0
AreVisible bytes = AllPass is_visible bytes

-- ---- what visible bytes may be in

-- Visible bytes may be in the value of a field.
pub value_bytes : (bytes : List ℕ) → AreVisible bytes → AllPass is_value_byte bytes
value_bytes bytes are =
    All-weaker (λ b. IsTrue (is_visible b)) (λ b. IsTrue (is_value_byte b))
    (λ b is. grind (arith, nat_tests)) bytes are

no_blank : (b : ℕ) → IsTrue (is_visible b) → is_ows b ≡ false
no_blank b is = grind (arith, nat_tests)

stays : (bytes : List ℕ) → AreVisible bytes → skip_ows bytes ≡ bytes
stays [] are = refl
stays (b ∷ bytes) are = rw (no_blank b (All-head (λ x. IsTrue (is_visible x)) b bytes are)) refl

-- Visible bytes after a space are a field's value as they are.
pub trimmed : (bytes : List ℕ) → AreVisible bytes → trim_ows (32 ∷ bytes) ≡ bytes
trimmed bytes are =
    trim_ows_space bytes (stays bytes are)
    (stays (reverse bytes) (AllPass-reverse is_visible bytes are))

-- ---- which bytes are visible

-- The bytes of a host's name are visible.
pub name_bytes : (host : List ℕ) → list_all is_host_byte host ≡ true → AreVisible host
name_bytes host are =
    All-weaker (λ b. IsTrue (is_host_byte b)) (λ b. IsTrue (is_visible b))
    (λ b is. grind (arith, nat_tests)) host
    (AllPass-from_list_all is_host_byte host are)

address_byte : (b : ℕ) → is_address_byte b ≡ true → is_visible b ≡ true
address_byte b is = grind (arith, nat_tests)

bracket_byte : (b : ℕ) → b ≡ 93 → is_visible b ≡ true
bracket_byte b is = rw is refl

-- Bytes of an address with a `]` after them are visible.
closed_bytes : (bytes : List ℕ) (n : ℕ) → length bytes ≡ n + 1
    → list_all is_address_byte (take n bytes) ≡ true → slice_index bytes n ≡ 93
    → AreVisible bytes
closed_bytes [] n len are last = All-nil (λ b. IsTrue (is_visible b))
closed_bytes (b ∷ []) zero len are last =
    All-cons (λ x. IsTrue (is_visible x)) b [] (bracket_byte b last)
    (All-nil (λ x. IsTrue (is_visible x)))
closed_bytes (b ∷ c ∷ bytes) zero len are last = absurd (omega (arith, len))
closed_bytes (b ∷ bytes) (suc n) len are last =
    let parts = and_parts (is_address_byte b) (list_all is_address_byte (take n bytes)) are in
    All-cons (λ x. IsTrue (is_visible x)) b bytes (address_byte b parts.0)
    (closed_bytes bytes n (omega (arith, len)) parts.1 last)

literal_bytes : (host : List ℕ) → is_literal host ≡ true → AreVisible host
literal_bytes [] is = All-nil (λ b. IsTrue (is_visible b))
literal_bytes (b ∷ rest) is =
    let host : List ℕ = b ∷ rest in
    let ends =
    and_parts
    (nat_le 3 (length host) && slice_index host 0 == 91 && slice_index host (length host - 1) == 93)
    (is_address (inside host)) is in
    let last =
    and_parts (nat_le 3 (length host) && slice_index host 0 == 91)
    (slice_index host (length host - 1) == 93) ends.0 in
    let first = and_parts (nat_le 3 (length host)) (slice_index host 0 == 91) last.0 in
    let long : 3 ≤ length host = leb-true 3 (length host) first.0 in
    let all =
    and_parts (list_any is_colon (inside host)) (list_all is_address_byte (inside host)) ends.1 in
    let n : ℕ = length rest - 1 in
    let place : length host - 1 ≡ suc n = omega (arith, long) in
    let count : length host - 1 - 1 ≡ n = omega (arith, long) in
    let begins : is_visible b ≡ true = rw (eqb-true b 91 first.1) refl in
    All-cons (λ x. IsTrue (is_visible x)) b rest begins
    (closed_bytes rest n (omega (arith, long))
    (subst (λ k. list_all is_address_byte (take k rest) ≡ true) count all.1)
    (subst (λ k. slice_index host k ≡ 93) place
    (eqb-true (slice_index host (length host - 1)) 93 last.1)))

-- The bytes of a host are visible.
pub host_bytes : (host : List ℕ) → is_host host ≡ true → AreVisible host
host_bytes host is = elim (or_cases (is_name host) (is_literal host) is) [
  | inl name ↦
      name_bytes host (and_parts (nat_lt 0 (length host)) (list_all is_host_byte host) name).1
  | inr literal ↦ literal_bytes host literal
]

digits_are : (bytes : List ℕ) → AllDigits 10 bytes → AreVisible bytes
digits_are [] are = All-nil (λ b. IsTrue (is_visible b))
digits_are (b ∷ bytes) are =
    All-cons (λ x. IsTrue (is_visible x)) b bytes (grind (arith, nat_tests))
    (digits_are bytes are.1)

digits_test : (bytes : List ℕ) → AllDigits 10 bytes → list_all is_ascii_digit bytes ≡ true
digits_test [] are = refl
digits_test (b ∷ bytes) are =
    let first : is_ascii_digit b ≡ true = grind (arith, nat_tests) in
    rw (first, digits_test bytes are.1) refl

-- The digits of a number of 64 bits are visible.
pub decimal_bytes : (n : ℕ) → n < 2 ^ 64 → AreVisible (decimal n)
decimal_bytes n fits = digits_are (decimal n) (decimal_is_IsNumeral n fits).0.1

below : (a b : ℕ) → a < b → nat_lt a b ≡ true
below a b is = grind (arith, nat_tests)

and_true : (a b : Bool) → a ≡ true → b ≡ true → (a && b) ≡ true
and_true a b e f = rw (e, f) refl

-- The digits of a number of 64 bits are a length, and that length is the number.
pub length_is : (n : ℕ) → n < 2 ^ 64
    → (is_length (decimal n) ≡ true) × (digits_value 10 (decimal n) ≡ n)
length_is n fits =
    let is = decimal_is_IsNumeral n fits in
    let small : digits_value 10 (decimal n) < 2 ^ 64 = subst (λ k. k < 2 ^ 64) (sym is.1) fits in (
      and_true _ _
          (and_true _ _ (below 0 (length (decimal n)) is.0.0) (digits_test (decimal n) is.0.1))
          (below (digits_value 10 (decimal n)) (2 ^ 64) small),
      is.1,
    )

-- ---- four things

-- A property of each of four elements holds of all elements of their list.
pub all_four : {A : Type 0} (P : A → Type 0) (a b c d : A) → P a → P b → P c → P d
    → All P (a ∷ b ∷ c ∷ d ∷ [])
all_four P a b c d first second third fourth =
    All-cons P a (b ∷ c ∷ d ∷ []) first
    (All-cons P b (c ∷ d ∷ []) second
    (All-cons P c (d ∷ []) third (All-cons P d [] fourth (All-nil P))))
