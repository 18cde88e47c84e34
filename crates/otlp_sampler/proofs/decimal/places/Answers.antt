use Rattle.std.proofs.Common.{◌≡◌, ◌-◌, ◌+◌, ◌*◌, ◌^◌, ℕ, ap, sym, ◌∙◌, get_or, min, take}
use Rattle.std.proofs.lemmas.Int.Digits.{digits_value_more}
use Rattle.std.specs.Char.{digit_value}
use Rattle.std.specs.Str.Parse.{digits_value}
use Rattle.otlp_sampler.proofs.Decimals.{digit_at, digit_value-is}
use Rattle.otlp_sampler.proofs.Exponents.{places_more}
use Rattle.otlp_sampler.proofs.decimal.places.Goals as goal

pub digits-preserved : goal.digits-preserved
digits-preserved c =
    let i : ℕ = c.digits.digit-index in
    let digit : digit_value (get_or c.args.digits.now i 0) ≡ c.from.result =
    digit_value-is (get_or c.args.digits.now i 0)
    (digit_at c.args.digits.now i c.requires c.digits-test.true)
    ∙ sym c.from.ensures in
    let more : digits_value 10 (take (i + 1) c.args.digits.now)
    ≡ digits_value 10 (take i c.args.digits.now) * 10 + c.from.result =
    digits_value_more 10 c.args.digits.now i c.digits-test.true
    ∙ ap (λ (d : ℕ). digits_value 10 (take i c.args.digits.now) * 10 + d) digit in
    record {
      is = c.saturating_add-number.ensures
          ∙ ap (λ (n : ℕ). min (n + c.from.result) (2 ^ 64 - 1)) c.saturating_mul.ensures
          ∙ places_more (digits_value 10 (take i c.args.digits.now)) c.from.result c.digits.number _
          (2 ^ 64 - 1) c.digits.invariant.is more;
    }
