use Rattle.std.proofs.Common.{subst}
use Rattle.otlp_proto.specs.Encode.{Lays}
use Rattle.otlp_proto.proofs.Laying.{sized-field}
use Rattle.otlp_proto.proofs.encoder.messages.put_sized.Goals as goal

pub returns-then-not-skip : goal.returns-then-not-skip
returns-then-not-skip g c =
    let bytes = g.T.Submessage.bytes (g.T.Submessage.view c.args.item.now) in
    let same = rw c.if-not-skip.true at c.skip.ensures in
    record {
      bytes =
          sized-field c.args.number c.args.len bytes _ (g.S.Sink.cursor c.put_key.new.sink)
          (g.S.Sink.cursor c.put_varint.new.self) _ c.requires.size c.put_key.ensures
          c.put_varint.ensures
          (subst
          (λ from. Lays bytes from (g.S.Sink.cursor c.put.new.sink)) same c.put.ensures.bytes);
      whole = c.requires.whole;
    }

pub returns-else-not-skip : goal.returns-else-not-skip
returns-else-not-skip g c =
    let bytes = g.T.Submessage.bytes (g.T.Submessage.view c.args.item.now) in
    let skips = rw c.if-not-skip.false at c.skip.ensures in
    record {
      bytes =
          sized-field c.args.number c.args.len bytes _ (g.S.Sink.cursor c.put_key.new.sink)
          (g.S.Sink.cursor c.put_varint.new.self) _ c.requires.size c.put_key.ensures
          c.put_varint.ensures
          (skips bytes c.requires.size);
      whole = c.requires.whole;
    }
