use Rattle.std.proofs.Common.{subst}
use Rattle.trace_lines.specs.Comes.{MayHaveBy}
use Rattle.trace_lines.proofs.rows.TraceLines.go_on.Goals as goal

pub returns-in_err-step-clause-comes : goal.returns-in_err-step-clause-comes
returns-in_err-step-clause-comes g c = λ lines frame h.
    subst (λ o. MayHaveBy c.args.self.now o lines frame) c.in-Some.ensures.value
    (λ _. h (c.new.ensures c.args.self.now.spans.items))
