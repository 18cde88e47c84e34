use Rattle.std.proofs.Common.{sym, refl}
use Rattle.trace_api.proofs.Made.{does-nothing}
use Rattle.trace_api.proofs.extension.SpanSpanExt.set_error.Goals as goal

pub returns-in_default-clause-ok : goal.returns-in_default-clause-ok
returns-in_default-clause-ok g c =
    does-nothing _ c.args.self.now refl (sym c.in_default.ensures)

pub returns-clause-ok : goal.returns-clause-ok
returns-clause-ok g c = rw (← c.in_ok-description.ensures.value) c.set_status.ensures.called
