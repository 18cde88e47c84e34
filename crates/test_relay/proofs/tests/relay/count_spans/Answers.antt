use Rattle.std.proofs.Common.{rules, ◌∙◌, ap, length}
use Rattle.otlp_read.specs.Requests.{request_view}
use Rattle.otlp_read.specs.Triples.{triple_view}
use Rattle.relay_service.proofs.Counted.{counted}
use Rattle.test_relay.proofs.tests.relay.count_spans.Goals as goal

pub returns-clause-count : goal.returns-clause-count
returns-clause-count g c =
    ap length c.as_slice.ensures.value
    ∙ counted triple_view c.args.body.now (request_view c.expect-request.result)
    c.expect-spans.result.items (search rules) (search rules)
