use Rattle.std.proofs.Common.{◌∙◌, sym, arith}
use Rattle.otlp_sampler.specs.Decimal.{is_exponent_mark}
use Rattle.otlp_sampler.proofs.Exponents.{before_more, first_is, none_is}
use Rattle.otlp_sampler.proofs.decimal.mark_of.Goals as goal

pub returns-then-is_mark-clause-place : goal.returns-then-is_mark-clause-place
returns-then-is_mark-clause-place c =
    first_is is_exponent_mark c.args.text.now c.bytes.i c.bytes-test.true c.bytes.invariant.before
    (sym c.is_mark.ensures ∙ c.if-is_mark.true)

pub bytes-preserved : goal.bytes-preserved
bytes-preserved c =
    record {
      before =
          before_more is_exponent_mark c.args.text.now c.bytes.i c.bytes.invariant.before
          (sym c.is_mark.ensures ∙ c.if-is_mark.false);
    }

pub returns-clause-place : goal.returns-clause-place
returns-clause-place c =
    none_is is_exponent_mark c.args.text.now c.bytes.i (omega arith) c.bytes.invariant.before
