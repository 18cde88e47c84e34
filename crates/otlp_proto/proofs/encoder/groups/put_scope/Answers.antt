use Rattle.std.proofs.Common.{subst}
use Rattle.model_message.specs.Tables
use Rattle.model_message.specs.Canon.{canon}
use Rattle.model_export.specs.Export.{scope_spans_message}
use Rattle.otlp_proto.specs.Group.{scope_group_view}
use Rattle.otlp_proto.specs.Encode.{Lays}
use Rattle.otlp_proto.proofs.Laying.{sized-field, counted-len}
use Rattle.otlp_proto.proofs.encoder.groups.put_scope.Goals as goal

pub returns-then-not-skip-clause-put : goal.returns-then-not-skip-clause-put
returns-then-not-skip-clause-put g c =
    let bytes =
    canon Tables.scope_spans (scope_spans_message (scope_group_view c.args.group.now)) in
    let len =
    counted-len _ _ _ _ c.new-length.ensures c.put_scope_spans.ensures.bytes c.len-len.ensures.value
    c.len-len.ensures.small in
    let same = rw c.if-not-skip.true at c.skip.ensures in
    record {
      bytes =
          sized-field c.args.number c.len-len.result bytes _ (g.S.Sink.cursor c.put_key.new.sink)
          (g.S.Sink.cursor c.put_varint.new.self) _ len c.put_key.ensures c.put_varint.ensures
          (subst
          (λ from. Lays bytes from (g.S.Sink.cursor c.put_scope_spans-then-not-skip.new.sink))
          same c.put_scope_spans-then-not-skip.ensures.bytes);
      whole = c.put_scope_spans.ensures.whole;
    }

pub returns-else-not-skip-clause-put : goal.returns-else-not-skip-clause-put
returns-else-not-skip-clause-put g c =
    let bytes =
    canon Tables.scope_spans (scope_spans_message (scope_group_view c.args.group.now)) in
    let len =
    counted-len _ _ _ _ c.new-length.ensures c.put_scope_spans.ensures.bytes c.len-len.ensures.value
    c.len-len.ensures.small in
    let skips = rw c.if-not-skip.false at c.skip.ensures in
    record {
      bytes =
          sized-field c.args.number c.len-len.result bytes _ (g.S.Sink.cursor c.put_key.new.sink)
          (g.S.Sink.cursor c.put_varint.new.self) _ len c.put_key.ensures c.put_varint.ensures
          (skips bytes len);
      whole = c.put_scope_spans.ensures.whole;
    }
