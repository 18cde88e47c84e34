use Rattle.std.proofs.Common.{refl}
use Rattle.model_span.specs.Spans.{add_link}
use Rattle.trace_api.specs.Request.{lent_link}
use Rattle.trace_api.proofs.Made.{counted-before, does-none, ignored-next, makes-all, makes-next}
use Rattle.trace_api.proofs.Made.{on-err}
use Rattle.trace_api.proofs.request.add_links.Goals as goal

pub loop-asked-init : goal.loop-asked-init
loop-asked-init g c = record { made = does-none c.args.span.now; ignored = λ e. refl }

pub loop-asked-preserved : goal.loop-asked-preserved
loop-asked-preserved g c =
    let i = c.loop-asked.invariant in
    record {
      made =
          makes-next (λ l. add_link l.context l.attributes) lent_link c.args.links.now
          c.loop-asked.asked-index c.asked-item.result c.args.span.now c.loop-asked.span
          c.link.new.self c.loop-asked-test.true c.asked-item.is i.made c.in_ok-link.ensures.ok;
      ignored =
          ignored-next c.args.span.now c.loop-asked.span c.link.new.self i.ignored
          c.in_ok-link.ensures.ignored;
    }

pub returns-in_err-link-clause-refused : goal.returns-in_err-link-clause-refused
returns-in_err-link-clause-refused g c =
    on-err c.from_residual.result
    (counted-before c.args.span.now c.loop-asked.span c.loop-asked.invariant.ignored
    c.in_err-link.ensures.refused)

pub returns-clause-ok : goal.returns-clause-ok
returns-clause-ok g c =
    makes-all (λ l. add_link l.context l.attributes) lent_link c.args.links.now
    c.loop-asked.asked-index c.args.span.now c.loop-asked.span c.loop-asked-test.false
    c.loop-asked.invariant.made
