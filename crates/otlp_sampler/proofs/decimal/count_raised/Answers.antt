use Rattle.std.proofs.Common.{◌≡◌, ◌∙◌, ◌++◌, ◌+◌, ◌-◌, ℕ, List, length, sym, arith}
use Rattle.std.proofs.Math.ListN.{length-append}
use Rattle.std.proofs.lemmas.Bool.{eqb-false, eqb-true}
use Rattle.std.specs.Str.Parse.{digits_value}
use Rattle.otlp_sampler.proofs.Decimals.{zeros}
use Rattle.otlp_sampler.proofs.Exponents.{nothing_raised, only_zero, raised}
use Rattle.otlp_sampler.proofs.decimal.count_raised.Goals as goal

pub returns-then-places-fraction : goal.returns-then-places-fraction
returns-then-places-fraction c =
    let all : List ℕ = c.args.whole.now ++ c.args.fraction.now in
    let len : length all ≡ length c.args.whole.now + length c.args.fraction.now =
    length-append c.args.whole.now c.args.fraction.now in
    let e : ℕ = length all - (length c.args.whole.now + c.args.places) in
    record {
      count =
          raised c.count_at.result (digits_value 10 all) e c.args.places
          (length c.args.fraction.now) (omega arith) c.count_at.ensures.count;
    }

pub returns-then-are_zeros_from : goal.returns-then-are_zeros_from
returns-then-are_zeros_from c =
    let all : List ℕ = c.args.whole.now ++ c.args.fraction.now in
    let test =
    sym (zeros all c.requires) ∙ sym c.are_zeros_from.ensures ∙ c.if-are_zeros_from.true in
    record {
      count = nothing_raised (digits_value 10 all) _ _ (eqb-true (digits_value 10 all) 0 test);
    }

pub returns : goal.returns
returns c =
    let all : List ℕ = c.args.whole.now ++ c.args.fraction.now in
    let test =
    sym (zeros all c.requires) ∙ sym c.are_zeros_from.ensures ∙ c.if-are_zeros_from.false in
    record {
      count =
          λ le. eqb-false (digits_value 10 all) 0 test
          (only_zero (digits_value 10 all) c.args.places
          (length c.args.fraction.now) c.if-places-fraction.false le);
    }
