use Rattle.std.proofs.Common.{◌∙◌, ap, length}
use Rattle.std.specs.List.{list_all}
use Rattle.otlp_read.specs.Requests.{request_view}
use Rattle.otlp_read.specs.Triples.{triple_view}
use Rattle.relay_service.specs.Receives.{has_ids}
use Rattle.relay_service.proofs.Counted.{all_pass, counted}
use Rattle.relay_service.proofs.receive.count_in.Goals as goal

pub returns-in-Ok-triples-clause-count : goal.returns-in-Ok-triples-clause-count
returns-in-Ok-triples-clause-count g c =
    ap length c.as_slice-spans.ensures.value
    ∙ counted triple_view c.args.content.now (request_view c.in-Ok.request)
    c.in-Ok-triples.found.items c.in-Ok.ensures.read c.in-Ok-triples.ensures.listed

pub returns-in-Ok-triples-clause-ids : goal.returns-in-Ok-triples-clause-ids
returns-in-Ok-triples-clause-ids g c =
    c.have_ids.ensures
    ∙ ap (list_all (λ span. has_ids (triple_view span))) c.as_slice-spans.ensures.value
    ∙ all_pass triple_view has_ids c.args.content.now (request_view c.in-Ok.request)
    c.in-Ok-triples.found.items c.in-Ok.ensures.read c.in-Ok-triples.ensures.listed
