-- Which texts are ratios.
use Rattle.std.proofs.Common.{◌≡◌, ℕ, ◌≤◌, List, true, false, Some, None, IsTrue, refl}
use Rattle.std.specs.Prelude.{Bool, ◌&&◌, if◌then◌else◌, nat_le}
use Rattle.std.proofs.lemmas.Bool.{le-leb, leb-true}
use Rattle.otlp_sampler.specs.Decimal.{denominator, is_decimal, numerator}
use Rattle.otlp_sampler.specs.Ratio.{threshold_of}
use Rattle.otel_settings.specs.Samplers.{ratio}

picked : {X : Type 0} (a b : Bool) (x : X) → a ≡ true → b ≡ true
    → (if a && b then Some x else None) ≡ Some x
picked a b x p q = rw (p, q) refl

left_out : {X : Type 0} (a b : Bool) (x : X) → ((a ≡ true) × (b ≡ true) → ⊥)
    → (if a && b then Some x else None) ≡ None
left_out true true x h = absurd (h (refl, refl))
left_out true false x h = refl
left_out false b x h = refl

-- A decimal number of at most 1 is a ratio, with the threshold of its fraction.
pub is_ratio : (text : List ℕ) → IsTrue (is_decimal text) → numerator text ≤ denominator text
    → ratio text ≡ Some (threshold_of (numerator text) (denominator text))
unfolding ratio
is_ratio text decimal le =
    picked (is_decimal text) (nat_le (numerator text) (denominator text)) _ decimal
    (le-leb (numerator text) (denominator text) le)

-- A text that is no decimal number of at most 1 is no ratio.
pub no_ratio : (text : List ℕ)
    → (IsTrue (is_decimal text) × (numerator text ≤ denominator text) → ⊥) → ratio text ≡ None
unfolding ratio
no_ratio text other =
    left_out (is_decimal text) (nat_le (numerator text) (denominator text)) _
    (λ both. other (both.0, leb-true (numerator text) (denominator text) both.1))
