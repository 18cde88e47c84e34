use Rattle.std.proofs.Common.{refl}
use Rattle.model_span.specs.Spans.{set_attribute}
use Rattle.trace_api.specs.Lent.{lent_pair}
use Rattle.trace_api.proofs.Made.{counted-before, does-none, ignored-next, makes-all, makes-next}
use Rattle.trace_api.proofs.Made.{makes-first, on-err}
use Rattle.trace_api.proofs.extension.SpanSpanExt.set_all.Goals as goal

pub loop-pair-init : goal.loop-pair-init
loop-pair-init g c = record { made = does-none c.args.self.now; ignored = λ e. refl }

pub loop-pair-preserved : goal.loop-pair-preserved
loop-pair-preserved g c =
    let i = c.loop-pair.invariant in
    record {
      made =
          makes-next set_attribute lent_pair c.args.pairs.now c.loop-pair.pair-index
          c.pair-item.result c.args.self.now c.loop-pair.self c.set.new.self
          c.loop-pair-test.true c.pair-item.is i.made c.in_ok-set.ensures.ok;
      ignored =
          ignored-next c.args.self.now c.loop-pair.self c.set.new.self i.ignored
          c.in_ok-set.ensures.ignored;
    }

pub returns-in_err-set-clause-ignored : goal.returns-in_err-set-clause-ignored
returns-in_err-set-clause-ignored g c =
    ignored-next c.args.self.now c.loop-pair.self c.set.new.self c.loop-pair.invariant.ignored
    c.in_err-set.ensures.ignored

pub returns-in_err-set-clause-err : goal.returns-in_err-set-clause-err
returns-in_err-set-clause-err g c =
    on-err c.from_residual.result
    (makes-first set_attribute lent_pair c.args.pairs.now c.loop-pair.pair-index c.args.self.now
    c.loop-pair.self c.set.new.self c.loop-pair-test.true c.loop-pair.invariant.made
    c.in_err-set.ensures.err)

pub returns-in_err-set-clause-refused : goal.returns-in_err-set-clause-refused
returns-in_err-set-clause-refused g c =
    on-err c.from_residual.result
    (counted-before c.args.self.now c.loop-pair.self c.loop-pair.invariant.ignored
    c.in_err-set.ensures.refused)

pub returns-clause-ok : goal.returns-clause-ok
returns-clause-ok g c =
    makes-all set_attribute lent_pair c.args.pairs.now c.loop-pair.pair-index c.args.self.now
    c.loop-pair.self c.loop-pair-test.false c.loop-pair.invariant.made
