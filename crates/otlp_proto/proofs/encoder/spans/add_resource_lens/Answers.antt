use Rattle.std.proofs.Common.{take_all}
use Rattle.otlp_proto.specs.Group.{scope_group_view}
use Rattle.otlp_proto.proofs.Lens.{adds-none, adds-both, flat-more}
use Rattle.otlp_proto.proofs.encoder.spans.add_resource_lens.Goals as goal

pub loop-scope_group-init : goal.loop-scope_group-init
loop-scope_group-init g c = adds-none _

pub loop-scope_group-preserved : goal.loop-scope_group-preserved
loop-scope_group-preserved g c =
    rw (flat-more (λ scope. scope.items) scope_group_view c.deref-scope_group-items.result.now
    c.loop-scope_group.scope_group-index c.scope_group-item.result c.loop-scope_group-test.true
    c.scope_group-item.is)
    (adds-both _ _ c.loop-scope_group.invariant c.in_ok-add_scope_lens.ensures)

pub returns : goal.returns
returns g c =
    rw (
      take_all c.loop-scope_group.scope_group-index c.deref-scope_group-items.result.now
          c.loop-scope_group-test.false,
      c.deref-scope_group-items.ensures.value,
    ) at c.loop-scope_group.invariant
