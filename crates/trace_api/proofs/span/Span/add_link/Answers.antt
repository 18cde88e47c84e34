use Rattle.trace_api.proofs.Read.{on-err, recording-with, said-with}
use Rattle.trace_api.proofs.span.Span.add_link.Goals as goal

pub returns-clause-refused_only_where_kept : goal.returns-clause-refused_only_where_kept
returns-clause-refused_only_where_kept g c =
    on-err c.record_call.result
    (recording-with c.args.self.now.state (λ r kept. kept.room))
    c.record_call.ensures.refused_only_where_kept

pub returns-clause-says_something : goal.returns-clause-says_something
returns-clause-says_something g c =
    on-err c.record_call.result
    (said-with c.args.self.now.state (λ r kept. kept.counts))
    c.record_call.ensures.refused_only_where_kept
