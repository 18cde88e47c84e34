use Rattle.std.proofs.Common.{take, take_all, refl}
use Rattle.model_message.specs.Tables
use Rattle.model_message.specs.Canon.{canon}
use Rattle.model_message.specs.Whole.{IsMessage}
use Rattle.model_export.specs.Export.{resource_spans_message, request_message}
use Rattle.otlp_proto.specs.Group.{resource_group_view, groups_view}
use Rattle.otlp_proto.specs.Grouped.{spans_in}
use Rattle.otlp_proto.proofs.Writing.{no-field, and-field, put-messages, each-none, each-more}
use Rattle.otlp_proto.proofs.Writing.{through-index}
use Rattle.otlp_proto.proofs.Lens.{begin-next, drop-next}
use Rattle.otlp_proto.proofs.encoder.groups.put_request.Goals as goal

pub loop-group-init : goal.loop-group-init
loop-group-init g c = (
  each-none 1 (λ x. canon Tables.resource_spans (resource_spans_message x))
      (λ x. IsMessage Tables.resource_spans (resource_spans_message x)),
  refl,
)

pub put_resource-rest-requires : goal.put_resource-rest-requires
put_resource-rest-requires g c =
    begin-next spans_in resource_group_view c.args.groups.now c.args.lens.now c.loop-group.rest.now
    c.loop-group.group-index c.group-item.result c.loop-group-test.true c.group-item.is c.requires
    c.loop-group.invariant.1

pub loop-group-preserved : goal.loop-group-preserved
loop-group-preserved g c =
    let before = groups_view (take c.loop-group.group-index c.args.groups.now) in (
      rw (through-index resource_group_view c.args.groups.now c.loop-group.group-index
          c.group-item.result c.loop-group-test.true c.group-item.is)
          (each-more 1 (λ x. canon Tables.resource_spans (resource_spans_message x))
          (λ x. IsMessage Tables.resource_spans (resource_spans_message x)) before
          (resource_group_view c.group-item.result) c.loop-group.invariant.0
          c.put_resource-rest.ensures.put),
      drop-next spans_in resource_group_view c.args.groups.now c.args.lens.now c.loop-group.rest.now
          c.loop-group.group-index c.group-item.result c.loop-group-test.true c.group-item.is
          c.loop-group.invariant.1 c.put_resource-rest.ensures.appended,
    )

pub returns : goal.returns
unfolding request_message
returns g c =
    let all =
    rw (take_all c.loop-group.group-index c.args.groups.now c.loop-group-test.false) at
    c.loop-group.invariant.0 in
    and-field (put-messages resource_spans_message _ all) no-field
