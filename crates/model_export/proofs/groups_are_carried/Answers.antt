use Rattle.model_export.proofs.Grouped.{carried-triples, request-triples}
use Rattle.model_export.proofs.groups_are_carried.Goals as goal

pub returns : goal.returns
returns c = record { spans = carried-triples; groups = request-triples }
