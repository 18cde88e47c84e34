use Rattle.std.proofs.Common.{ap, sym, ◌∙◌}
use Rattle.model_message.specs.Wire.{row}
use Rattle.retry_core.specs.Retries.{fate_view}
use Rattle.otlp_wire.specs.Fields.{field_of}
use Rattle.otlp_wire.proofs.FieldsRead.{read-more, read-none}
use Rattle.relay_queue.specs.Named.{Gains}
use Rattle.relay_queue.specs.Walk.{resource_names}
use Rattle.relay_queue.proofs.Read.{names-more, read-to-end, resource-none, resource-parts}
use Rattle.relay_queue.proofs.names.name_scopes.Goals as goal

pub loop-field-init : goal.loop-field-init
loop-field-init g c =
    let named = g.S.LostSink.named in (
      tt,
      tt,
      read-none
          (λ fields. Gains (resource_names (fate_view c.args.fate) fields) (named c.args.sink.now)
          (named c.args.sink.now))
          (row c.args.content.now) _ (resource-none (fate_view c.args.fate) (named c.args.sink.now))
          (sym c.new-field-items.ensures.whole
          ∙ sym c.into_iter-field-iterator.ensures.into_iter_gives),
    )

pub returns-in_err-field : goal.returns-in_err-field
returns-in_err-field g c =
    let named = g.S.LostSink.named in
    let gives = rw c.in_err-field.was at c.in-Some.ensures.steps in
    read-to-end
    (λ fields. Gains (resource_names (fate_view c.args.fate) fields) (named c.args.sink.now)
    (named c.loop-field.sink))
    (row c.args.content.now) _ c.loop-field.invariant.2 (ap (λ r. r.value) gives.0)

pub loop-field-preserved : goal.loop-field-preserved
loop-field-preserved g c =
    let named = g.S.LostSink.named in
    let fate = fate_view c.args.fate in
    let gives = rw c.in_ok-field.was at c.in-Some.ensures.steps in
    let f = field_of c.in_ok-field.field-0 in (
      tt,
      tt,
      read-more
          (λ fields. Gains (resource_names fate fields) (named c.args.sink.now)
          (named c.loop-field.sink))
          (λ fields. Gains (resource_names fate fields) (named c.args.sink.now)
          (named c.name_scope.new.sink))
          (row c.args.content.now) _ _ f c.loop-field.invariant.2 gives
          (names-more (resource_names fate) (resource-parts fate) f (named c.args.sink.now)
          (named c.loop-field.sink) (named c.name_scope.new.sink) c.name_scope.ensures),
    )

pub returns : goal.returns
returns g c =
    let named = g.S.LostSink.named in
    read-to-end
    (λ fields. Gains (resource_names (fate_view c.args.fate) fields) (named c.args.sink.now)
    (named c.loop-field.sink))
    (row c.args.content.now) _ c.loop-field.invariant.2
    (ap (λ r. r.value) c.in-None.ensures.steps.0)
