use Rattle.std.proofs.Common.{subst}
use Rattle.trace_lines.specs.Plans.{AreGathered, tree_of, values}
use Rattle.trace_lines.proofs.Gathers.{values_all}
use Rattle.trace_lines.proofs.planning.gather.Goals as goal

pub returns-then-at-spans-clause-part : goal.returns-then-at-spans-clause-part
returns-then-at-spans-clause-part g c = λ h. (
  subst (λ l. AreGathered l c.args.known)
      (values_all c.args.spans.now c.args.at c.if-at-spans.true) h,
  c.new.ensures (tree_of (values c.args.spans.now)),
)
