use Rattle.std.proofs.Common.{map, take, take_all, refl}
use Rattle.model_message.specs.Tables
use Rattle.model_message.specs.Canon.{canon}
use Rattle.model_message.specs.Whole.{IsMessage}
use Rattle.model_export.specs.Export.{scope_spans_message}
use Rattle.otlp_proto.specs.Group.{scope_group_view}
use Rattle.otlp_proto.proofs.Writing.{no-field, and-field, put-message, put-messages, each-none}
use Rattle.otlp_proto.proofs.Writing.{each-more, through-index}
use Rattle.otlp_proto.proofs.Lens.{begin-next, drop-next}
use Rattle.otlp_proto.proofs.encoder.groups.put_resource_spans.Goals as goal

pub loop-scope_group-init : goal.loop-scope_group-init
loop-scope_group-init g c = (
  each-none 2 (λ x. canon Tables.scope_spans (scope_spans_message x))
      (λ x. IsMessage Tables.scope_spans (scope_spans_message x)),
  refl,
)

pub put_scope-rest-requires : goal.put_scope-rest-requires
put_scope-rest-requires g c =
    begin-next (λ scope. scope.items) scope_group_view c.deref-scope_group-items.result.now
    c.args.lens.now c.loop-scope_group.rest.now c.loop-scope_group.scope_group-index
    c.scope_group-item.result c.loop-scope_group-test.true c.scope_group-item.is
    (rw (← c.deref-scope_group-items.ensures.value) at c.requires) c.loop-scope_group.invariant.1

pub loop-scope_group-preserved : goal.loop-scope_group-preserved
loop-scope_group-preserved g c =
    let items = c.deref-scope_group-items.result.now in
    let before = map scope_group_view (take c.loop-scope_group.scope_group-index items) in (
      rw (through-index scope_group_view items c.loop-scope_group.scope_group-index
          c.scope_group-item.result c.loop-scope_group-test.true c.scope_group-item.is)
          (each-more 2 (λ x. canon Tables.scope_spans (scope_spans_message x))
          (λ x. IsMessage Tables.scope_spans (scope_spans_message x)) before
          (scope_group_view c.scope_group-item.result) c.loop-scope_group.invariant.0
          c.put_scope-rest.ensures.put),
      drop-next (λ scope. scope.items) scope_group_view items c.args.lens.now
          c.loop-scope_group.rest.now c.loop-scope_group.scope_group-index c.scope_group-item.result
          c.loop-scope_group-test.true c.scope_group-item.is c.loop-scope_group.invariant.1
          c.put_scope-rest.ensures.appended,
    )

pub returns-clause-put : goal.returns-clause-put
returns-clause-put g c =
    let all =
    rw (
      take_all c.loop-scope_group.scope_group-index c.deref-scope_group-items.result.now
          c.loop-scope_group-test.false,
      c.deref-scope_group-items.ensures.value,
    ) at c.loop-scope_group.invariant.0 in
    let url = rw c.as_str.ensures.value at c.put_text.ensures in
    and-field (put-message refl c.put_one.ensures)
    (and-field (put-messages scope_spans_message _ all) (and-field url no-field))

pub returns-clause-appended : goal.returns-clause-appended
returns-clause-appended g c =
    rw (
      take_all c.loop-scope_group.scope_group-index c.deref-scope_group-items.result.now
          c.loop-scope_group-test.false,
      c.deref-scope_group-items.ensures.value,
    ) at c.loop-scope_group.invariant.1
