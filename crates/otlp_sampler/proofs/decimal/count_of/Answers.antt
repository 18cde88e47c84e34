use Rattle.std.proofs.Common.{ℕ, Bool, List, ◌≡◌, ◌≤◌, ◌<◌, ◌+◌, ◌∙◌, ap, arith, length, sym, subst}
use Rattle.otlp_sampler.specs.Decimal.{fraction_part, mantissa_part, whole_part}
use Rattle.otlp_sampler.proofs.Exponents.{parts_short, whole_answer}
use Rattle.otlp_sampler.proofs.decimal.count_of.Goals as goal

pub returns : goal.returns
returns c =
    let whole : List ℕ = c.split_at_point.result.0.now in
    let fraction : List ℕ = c.split_at_point.result.1.now in
    let before : whole ≡ whole_part (mantissa_part c.args.text.now) =
    c.split_at_point.ensures.whole ∙ ap (λ (m : List ℕ). whole_part m) c.mantissa_of.ensures in
    let after : fraction ≡ fraction_part (mantissa_part c.args.text.now) =
    c.split_at_point.ensures.fraction
    ∙ ap (λ (m : List ℕ). fraction_part m) c.mantissa_of.ensures in
    let short = parts_short c.args.text.now in
    let whole_short : length whole ≤ length c.args.text.now =
    subst (λ (l : List ℕ). length l ≤ length c.args.text.now) (sym before) short.0 in
    let fraction_short : length fraction ≤ length c.args.text.now =
    subst (λ (l : List ℕ). length l ≤ length c.args.text.now) (sym after) short.1 in
    let wide : length whole + 17 ≤ 18446744073709551615 = omega arith in
    let small : length fraction < 18446744073709551615 = omega arith in
    record {
      count =
          whole_answer c.count_moved.result c.args.text.now whole fraction c.in_ok-negative.negative
          c.in_ok-negative.places 18446744073709551615
          c.requires before after wide small
          (ap (λ (x : Bool × ℕ). x.0) c.in_ok-negative.ensures.1)
          (ap (λ (x : Bool × ℕ). x.1) c.in_ok-negative.ensures.1)
          c.count_moved.ensures.right c.count_moved.ensures.left;
    }
