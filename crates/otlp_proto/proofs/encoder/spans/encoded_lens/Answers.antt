use Rattle.std.proofs.Common.{take_all}
use Rattle.otlp_proto.specs.Group.{resource_group_view}
use Rattle.otlp_proto.specs.Grouped.{spans_in}
use Rattle.otlp_proto.proofs.Lens.{adds-none, adds-both, flat-more}
use Rattle.otlp_proto.proofs.encoder.spans.encoded_lens.Goals as goal

pub loop-group-init : goal.loop-group-init
loop-group-init g c = rw c.in_ok-lens.ensures.items (adds-none _)

pub loop-group-preserved : goal.loop-group-preserved
loop-group-preserved g c =
    rw (flat-more spans_in resource_group_view c.args.groups.now c.loop-group.group-index
    c.group-item.result c.loop-group-test.true c.group-item.is)
    (adds-both _ _ c.loop-group.invariant c.in_ok-add_resource_lens.ensures)

pub returns : goal.returns
returns g c =
    rw (take_all c.loop-group.group-index c.args.groups.now c.loop-group-test.false) at
    c.loop-group.invariant
