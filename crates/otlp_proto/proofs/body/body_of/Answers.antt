use Rattle.otlp_proto.specs.Group.{resource_group_view}
use Rattle.otlp_proto.proofs.Carried.{body-means, if-ok, lacks-body, spans_grouped}
use Rattle.otlp_proto.proofs.body.body_of.Goals as goal

pub returns-clause-meaning : goal.returns-clause-meaning
returns-clause-meaning g c =
    let read =
    rw (c.as_slice.ensures.value, c.in_ok-groups.ensures.grouped) at c.encode.ensures.meaning in
    if-ok c.encode.result (λ body. body-means c.args.spans.now body.items) read

pub returns-clause-lacks : goal.returns-clause-lacks
returns-clause-lacks g c =
    let larger =
    rw (c.as_slice.ensures.value, c.in_ok-groups.ensures.grouped) at c.encode.ensures.too_large in
    lacks-body c.args.max c.args.spans.now c.encode.result larger

pub returns-clause-refused : goal.returns-clause-refused
returns-clause-refused g c =
    let refused = rw c.as_slice.ensures.value at c.encode.ensures.refused in
    λ fault. spans_grouped c.args.spans.now c.in_ok-groups.groups.items resource_group_view
    c.in_ok-groups.ensures.grouped
    (refused fault)
