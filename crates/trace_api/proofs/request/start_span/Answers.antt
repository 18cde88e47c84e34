use Rattle.trace_api.proofs.Made.{counted-before}
use Rattle.trace_api.proofs.Started.{as-called, as-not-started, as-refused}
use Rattle.trace_api.proofs.request.start_span.Goals as goal

pub returns-in_err-span-clause-started : goal.returns-in_err-span-clause-started
returns-in_err-span-clause-started g c =
    as-not-started _ _ c.from_residual.result _ c.from_residual.ensures.1
    c.in_err-span.ensures.started

pub returns-in_err-set_all-clause-started : goal.returns-in_err-set_all-clause-started
returns-in_err-set_all-clause-started g c =
    as-refused _ _ c.from_residual-in_err-set_all.result _ c.from_residual-in_err-set_all.ensures.1
    c.in_ok-span.ensures.started c.in_err-set_all.ensures.refused

pub returns-in_err-add_links-clause-started : goal.returns-in_err-add_links-clause-started
returns-in_err-add_links-clause-started g c =
    as-refused _ _ c.from_residual-in_err-add_links.result _
    c.from_residual-in_err-add_links.ensures.1 c.in_ok-span.ensures.started
    (counted-before _ _ c.in_ok-set_all.ensures.ignored c.in_err-add_links.ensures.refused)

pub returns-clause-started : goal.returns-clause-started
returns-clause-started g c =
    as-called _ _ _ _ _ _ c.in_ok-span.ensures.started c.in_ok-set_all.ensures.ok
    c.in_ok-add_links.ensures.ok
