use Rattle.trace_run.proofs.Settling.{can-settle}
use Rattle.trace_run.proofs.report.RunReport.close.Goals as goal

pub settle-requires : goal.settle-requires
settle-requires g c =
    can-settle _ _ _
    (rw (c.in-Some.is, ← c.is_sent-is_sent.ensures, c.if-is_sent.true, ← c.out.view_is) at
    c.self.invariant)
