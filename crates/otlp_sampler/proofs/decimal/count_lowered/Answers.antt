use Rattle.std.proofs.Common.{◌≡◌, ◌∙◌, ◌++◌, ◌+◌, ◌-◌, ℕ, List, length, arith}
use Rattle.std.proofs.Math.ListN.{length-append}
use Rattle.std.specs.Str.Parse.{digits_value}
use Rattle.otlp_sampler.proofs.Decimals.{value_lt}
use Rattle.otlp_sampler.proofs.Exponents.{lowered, lowered_past}
use Rattle.otlp_sampler.proofs.decimal.count_lowered.Goals as goal

pub returns-then-places-before : goal.returns-then-places-before
returns-then-places-before c =
    let all : List ℕ = c.args.whole.now ++ c.args.fraction.now in
    let len : length all ≡ length c.args.whole.now + length c.args.fraction.now =
    length-append c.args.whole.now c.args.fraction.now in
    let e : ℕ = length all - (length c.args.whole.now - c.args.places) in
    record {
      count =
          lowered c.count_at.result (digits_value 10 all) e
          (length c.args.fraction.now) c.args.places (omega arith) c.count_at.ensures.count;
    }

pub returns : goal.returns
returns c =
    let all : List ℕ = c.args.whole.now ++ c.args.fraction.now in
    let len : length all ≡ length c.args.whole.now + length c.args.fraction.now =
    length-append c.args.whole.now c.args.fraction.now in
    let past =
    lowered_past (digits_value 10 all) (length all) (length c.args.fraction.now) c.args.places
    (c.args.places - length c.args.whole.now) c.count_of_fraction-count.result
    (omega arith) (value_lt all c.requires) c.count_of_fraction-count.ensures in
    record { count = (past.0, c.divided.ensures ∙ past.1) }
