use Rattle.trace_api.specs.Endings.{ending_calls, ending_view}
use Rattle.trace_api.proofs.Handing.{ends-as, none-ends}
use Rattle.trace_api.proofs.end.end_span.Goals as goal

pub returns-clause-ended : goal.returns-clause-ended
returns-clause-ended g c =
    let ending = ending_view c.args.ending in
    ends-as _ (ending_calls ending) c.args.at _ _ _ _ c.end.result
    (none-ends ending) c.in_ok-set_ending.ensures
    (record { not_sampled = c.end.ensures.not_sampled; sampled = c.end.ensures.sampled })
