use Rattle.std.proofs.Common.{◌∙◌, rules, tests}
use Rattle.std.proofs.lemmas.Iterator.{YieldsList-from_slice}
use Rattle.std.proofs.lemmas.Iterator.Consumers.{YieldsList-at, YieldsList-from_filter}
use Rattle.std.proofs.lemmas.Iterator.Consumers.{count_from_yields_List}
use Rattle.trace_run.specs.Steps.{step_view}
use Rattle.trace_script.specs.Recorder.{begins}
use Rattle.trace_script.proofs.Steps.{starts-among}
use Rattle.trace_script.proofs.recorder.count_starts.Goals as goal

pub returns : goal.returns
returns g c =
    count_from_yields_List c.filter.result _ c.count.ensures.ran
    (YieldsList-from_filter _ (λ s. begins (step_view s))
    (YieldsList-at c.filter.ensures.source
    (YieldsList-from_slice c.args.steps.now c.iter.ensures.rest))
    c.filter.ensures.closure
    (λ x b q k. search (rules, tests)))
    ∙ starts-among step_view c.args.steps.now
