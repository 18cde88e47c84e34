-- No tag begins in the text of a double.
use Rattle.std.proofs.Common.{◌≡◌, refl, ℕ, zero, suc, ◌-◌, ◌*◌, ◌/◌, ◌%◌, ◌^◌, ◌==◌, Bool, true}
use Rattle.std.proofs.Common.{◌++◌, codes, Some, None}
use Rattle.std.specs.Prelude.{decimal, nat_lt}
use Rattle.page_text.specs.Doubles.{decimal_text, digits_of, divided_text, page_text}
use Rattle.page_text.specs.Doubles.{exponent_of, fraction_of, is_negative, large_text}
use Rattle.page_text.specs.Doubles.{mantissa_of, power_of, shortest, shortest_text, sign_text}
use Rattle.page_text.specs.Doubles.{size_text, small_text, times_text}
use Rattle.view_pages.proofs.Lacks.{lacks, lacks_append, lacks_cond, lacks_decimal}

lacks_digits_of : (n ten rest : ℕ) → lacks (digits_of n ten rest) ≡ true
unfolding digits_of
lacks_digits_of zero ten rest = refl
lacks_digits_of (suc n) ten rest =
    lacks_append (decimal (rest / (ten / 10))) (digits_of n (ten / 10) (rest % (ten / 10)))
    (lacks_decimal (rest / (ten / 10))) (lacks_digits_of n (ten / 10) (rest % (ten / 10)))

lacks_times : (m p : ℕ) → lacks (times_text m p) ≡ true
unfolding times_text
lacks_times m p =
    lacks_append (decimal m ++ codes "*2^") (decimal p)
    (lacks_append (decimal m) (codes "*2^") (lacks_decimal m) refl) (lacks_decimal p)

lacks_divided : (m p : ℕ) → lacks (divided_text m p) ≡ true
unfolding divided_text
lacks_divided m p =
    lacks_append (decimal m ++ codes "*2^-") (decimal p)
    (lacks_append (decimal m) (codes "*2^-") (lacks_decimal m) refl) (lacks_decimal p)

lacks_shortest : (m p two : ℕ) → lacks (shortest_text m p (shortest m two)) ≡ true
unfolding decimal_text
lacks_shortest m p two = elim (shortest m two) as (λ d. lacks (shortest_text m p d) ≡ true) [
  | None ↦ lacks_divided m p
  | Some d ↦
      lacks_append (decimal (d.number / d.ten)) _ (lacks_decimal (d.number / d.ten))
      (lacks_cond (d.places == 0) _ _ (λ e. refl)
      (λ e. lacks_append (codes ".") (digits_of d.places d.ten (d.number % d.ten)) refl
      (lacks_digits_of d.places d.ten (d.number % d.ten))))
]

lacks_large : (m p : ℕ) → lacks (large_text m p) ≡ true
unfolding large_text
lacks_large m p =
    lacks_cond (nat_lt 75 p) _ _ (λ e. lacks_times m p) (λ e. lacks_decimal (m * 2 ^ p))

lacks_small : (m p : ℕ) → lacks (small_text m p) ≡ true
unfolding small_text
lacks_small m p =
    lacks_cond (nat_lt 120 p) _ _ (λ e. lacks_divided m p) (λ e. lacks_shortest m p (2 ^ p))

lacks_size : (m p : ℕ) → lacks (size_text m p) ≡ true
unfolding size_text
lacks_size m p =
    lacks_cond (m == 0) _ _ (λ e. refl)
    (λ e.
    lacks_cond (nat_lt p 1075) _ _ (λ e. lacks_small m (1075 - p)) (λ e. lacks_large m (p - 1075)))

lacks_sign : (negative : Bool) → lacks (sign_text negative) ≡ true
unfolding sign_text
lacks_sign negative = lacks_cond negative _ _ (λ e. refl) (λ e. refl)

-- The text of a double has no `<`.
pub lacks_double : (bits : ℕ) → lacks (page_text bits) ≡ true
unfolding page_text
lacks_double bits =
    lacks_cond (exponent_of bits == 2047) _ _
    (λ e. lacks_cond (fraction_of bits == 0) _ _
    (λ e. lacks_append (sign_text (is_negative bits)) (codes "Infinity")
    (lacks_sign (is_negative bits)) refl)
    (λ e. refl))
    (λ e. lacks_append (sign_text (is_negative bits)) (size_text (mantissa_of bits) (power_of bits))
    (lacks_sign (is_negative bits)) (lacks_size (mantissa_of bits) (power_of bits)))
