use Rattle.std.proofs.Common.{◌≡◌, Err, arith, rules}
use Rattle.form_urlencoded.specs.Parse.{pairs_left}
use Rattle.trace_lines.proofs.Queries.{wrong_pair, wrong_query}
use Rattle.trace_lines.proofs.filter.Filter.parse.Goals as goal

pub returns-in_err-set-clause-wrong : goal.returns-in_err-set-clause-wrong
returns-in_err-set-clause-wrong g c =
    let told : c.from_residual.result ≡ Err c.in_err-set.field-0.0 = grind arith in
    let step = c.in-Some.ensures.steps.0 in
    wrong_query c.args.query.now c.in_err-set.field-0.0 c.from_residual.result told
    (λ is. wrong_pair c.args.query.now (pairs_left c.loop-pair.pair-iterator)
    (pairs_left c.next.new.self) step.0 step.1 c.as_str.result.now c.as_str-in-loop-pair.result.now
    step.2
    (search rules) (search rules) c.loop-pair.invariant.wrong (c.in_err-set.ensures.wrong is))
