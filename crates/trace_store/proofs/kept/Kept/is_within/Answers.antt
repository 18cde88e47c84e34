use Rattle.std.proofs.Common.{arith, subst}
use Rattle.trace_store.specs.Stores.{IsBounded}
use Rattle.trace_store.proofs.kept.Kept.is_within.Goals as goal

pub returns-then-self-limits-clause-bounded : goal.returns-then-self-limits-clause-bounded
returns-then-self-limits-clause-bounded g c =
    subst IsBounded c.self.view_is (c.self.invariant.4, omega (arith, c.self.invariant.5))

pub returns-else-self-limits-clause-bounded : goal.returns-else-self-limits-clause-bounded
returns-else-self-limits-clause-bounded g c =
    subst IsBounded c.self.view_is (c.self.invariant.4, omega (arith, c.self.invariant.5))
