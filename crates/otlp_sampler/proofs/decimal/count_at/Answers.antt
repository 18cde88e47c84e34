use Rattle.std.proofs.Common.{None, Some, ◌∙◌, ◌++◌, ℕ, List, sym, take, drop}
use Rattle.std.proofs.lemmas.Bool.{eqb-false, eqb-true}
use Rattle.std.specs.Str.Parse.{digits_value}
use Rattle.otlp_sampler.proofs.Decimals.{fraction_alone, one_alone, one_and_more, one_left, too_big}
use Rattle.otlp_sampler.proofs.Decimals.{zeros}
use Rattle.otlp_sampler.proofs.Exponents.{parts_at, placed}
use Rattle.otlp_sampler.proofs.decimal.count_at.Goals as goal

pub returns-in_err-ones : goal.returns-in_err-ones
returns-in_err-ones c =
    let all : List ℕ = c.args.whole.now ++ c.args.fraction.now in
    rw c.from_residual.ensures
    (record {
      count =
          placed None all c.args.point
          (too_big (take c.args.point all) (drop c.args.point all) c.in_err-ones.ensures);
    })

pub returns-then-ones-eq0 : goal.returns-then-ones-eq0
returns-then-ones-eq0 c =
    let all : List ℕ = c.args.whole.now ++ c.args.fraction.now in
    let parts = parts_at all c.args.point c.requires.digits in
    let alone =
    fraction_alone (take c.args.point all) (drop c.args.point all) parts.1
    (sym c.in_ok-ones.ensures.1 ∙ c.if-ones-eq0.true) in
    record {
      count =
          placed (Some c.count_of_fraction.result) all c.args.point
          (alone.0, c.count_of_fraction.ensures ∙ alone.1);
    }

pub returns-then-are_zeros_from : goal.returns-then-are_zeros_from
returns-then-are_zeros_from c =
    let all : List ℕ = c.args.whole.now ++ c.args.fraction.now in
    let front : List ℕ = take c.args.point all in
    let rest : List ℕ = drop c.args.point all in
    let parts = parts_at all c.args.point c.requires.digits in
    let one =
    one_left c.in_ok-ones.ones
    (digits_value 10 front) c.in_ok-ones.ensures.1 c.in_ok-ones.ensures.0 c.if-ones-eq0.false in
    let test = sym (zeros rest parts.1) ∙ sym c.are_zeros_from.ensures ∙ c.if-are_zeros_from.true in
    record {
      count =
          placed (Some 72057594037927936) all c.args.point
          (one_alone front rest one (eqb-true (digits_value 10 rest) 0 test));
    }

pub returns : goal.returns
returns c =
    let all : List ℕ = c.args.whole.now ++ c.args.fraction.now in
    let front : List ℕ = take c.args.point all in
    let rest : List ℕ = drop c.args.point all in
    let parts = parts_at all c.args.point c.requires.digits in
    let one =
    one_left c.in_ok-ones.ones
    (digits_value 10 front) c.in_ok-ones.ensures.1 c.in_ok-ones.ensures.0 c.if-ones-eq0.false in
    let test =
    sym (zeros rest parts.1) ∙ sym c.are_zeros_from.ensures ∙ c.if-are_zeros_from.false in
    record {
      count =
          placed None all c.args.point
          (one_and_more front rest one (eqb-false (digits_value 10 rest) 0 test));
    }
