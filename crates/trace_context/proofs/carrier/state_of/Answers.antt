use Rattle.std.proofs.Common.{arith}
use Rattle.trace_context.proofs.Added.{nothing-out}
use Rattle.trace_context.proofs.carrier.state_of.Goals as goal

pub returns-in-empty-clause-read : goal.returns-in-empty-clause-read
returns-in-empty-clause-read g c =
    nothing-out _ _ _ c.as_bytes.ensures.value (omega (arith, c.in-empty.len_below))
    c.new.ensures.bytes
