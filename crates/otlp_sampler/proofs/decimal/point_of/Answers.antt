use Rattle.std.proofs.Common.{arith}
use Rattle.std.proofs.lemmas.Bool.{eq-eqb}
use Rattle.otlp_sampler.specs.Decimal.{is_point}
use Rattle.otlp_sampler.proofs.Exponents.{first_is, none_is}
use Rattle.otlp_sampler.proofs.decimal.point_of.Goals as goal

pub returns-then-mantissa-i-eq46-clause-place : goal.returns-then-mantissa-i-eq46-clause-place
returns-then-mantissa-i-eq46-clause-place c =
    first_is is_point c.args.mantissa.now c.bytes.i c.bytes-test.true c.bytes.invariant.before
    (eq-eqb _ 46 c.if-mantissa-i-eq46.true)

pub returns-clause-place : goal.returns-clause-place
returns-clause-place c =
    none_is is_point c.args.mantissa.now c.bytes.i (omega arith) c.bytes.invariant.before
