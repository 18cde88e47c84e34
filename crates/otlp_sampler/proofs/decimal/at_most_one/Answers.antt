use Rattle.std.proofs.Common.{◌+◌, ◌≡◌, ◌-◌, ◌*◌, ◌<◌, ◌++◌, ℕ, List, get_or, length, ap, ◌∙◌}
use Rattle.std.proofs.Common.{arith}
use Rattle.otlp_sampler.proofs.Decimals.{passed, value_more}
use Rattle.otlp_sampler.proofs.Exponents.{front_of_front}
use Rattle.otlp_sampler.proofs.decimal.at_most_one.Goals as goal

pub returns-then-number-gt1 : goal.returns-then-number-gt1
returns-then-number-gt1 c =
    let all : List ℕ = c.args.whole.now ++ c.args.fraction.now in
    let below : c.digits.i < length all = omega (arith, c.requires.point, c.digits-test.true) in
    let more =
    value_more all c.digits.i c.digits.number below c.requires.digits c.digits.invariant.is in
    let digit : c.from.result ≡ get_or all c.digits.i 0 - 48 =
    c.from.ensures ∙ ap (λ (d : ℕ). d - 48) c.digit_at.ensures in
    passed _ _ _ c.if-number-gt1.true (ap (λ (d : ℕ). 10 * c.digits.number + d) digit ∙ more)
    (front_of_front (c.digits.i + 1) c.args.point all (omega (arith, c.digits-test.true)))

pub digits-preserved : goal.digits-preserved
digits-preserved c =
    let all : List ℕ = c.args.whole.now ++ c.args.fraction.now in
    let below : c.digits.i < length all = omega (arith, c.requires.point, c.digits-test.true) in
    let more =
    value_more all c.digits.i c.digits.number below c.requires.digits c.digits.invariant.is in
    let digit : c.from.result ≡ get_or all c.digits.i 0 - 48 =
    c.from.ensures ∙ ap (λ (d : ℕ). d - 48) c.digit_at.ensures in
    record {
      is = ap (λ (d : ℕ). 10 * c.digits.number + d) digit ∙ more;
      small = c.if-number-gt1.false;
    }
