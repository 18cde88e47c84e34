use Rattle.std.proofs.Common.{◌≡◌, ℕ, List, ◌+◌, ◌-◌, ◌*◌, ◌/◌, ◌<◌, ◌^◌, ◌++◌, ap, ◌∙◌, length}
use Rattle.std.proofs.Common.{drop, get_or, sym, subst, arith}
use Rattle.std.proofs.Math.ListN.{length-append}
use Rattle.std.specs.Str.Parse.{digits_value}
use Rattle.otlp_sampler.specs.Ratio.{share}
use Rattle.otlp_sampler.proofs.Decimals.{count_more, digit_le, small_more}
use Rattle.otlp_sampler.proofs.decimal.count_of_fraction.Goals as goal

pub digits-preserved : goal.digits-preserved
digits-preserved c =
    let all : List ℕ = c.args.whole.now ++ c.args.fraction.now in
    let k : ℕ = c.digits.i - 1 in
    let len : length all ≡ length c.args.whole.now + length c.args.fraction.now =
    length-append c.args.whole.now c.args.fraction.now in
    let below : k < length all = omega arith in
    let back : k + 1 ≡ c.digits.i = omega arith in
    let was =
    subst
    (λ (j : ℕ). c.digits.count ≡ share (digits_value 10 (drop j all)) (10 ^ length (drop j all)))
    (sym back) c.digits.invariant.is in
    let digit : get_or all k 0 - 48 ≡ c.from.result =
    sym (c.from.ensures ∙ ap (λ (d : ℕ). d - 48) c.digit_at.ensures) in
    record {
      is =
          subst (λ (d : ℕ). (d * 2 ^ 56 + c.digits.count) / 10
          ≡ share (digits_value 10 (drop k all)) (10 ^ length (drop k all)))
          digit
          (count_more all k c.digits.count below c.requires.digits was);
      small = subst (λ (d : ℕ). (d * 2 ^ 56 + c.digits.count) / 10 < 2 ^ 56) digit
          (small_more (get_or all k 0 - 48) c.digits.count
          (digit_le all k below c.requires.digits) c.digits.invariant.small);
      from = omega arith;
    }

pub returns : goal.returns
returns c =
    let all : List ℕ = c.args.whole.now ++ c.args.fraction.now in
    let len : length all ≡ length c.args.whole.now + length c.args.fraction.now =
    length-append c.args.whole.now c.args.fraction.now in
    let here : c.digits.i ≡ c.args.point = omega arith in
    subst
    (λ (j : ℕ). c.digits.count ≡ share (digits_value 10 (drop j all)) (10 ^ length (drop j all)))
    here c.digits.invariant.is
