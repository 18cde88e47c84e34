use Rattle.std.proofs.Common.{arith, sym, subst, length, ap}
use Rattle.model_message.specs.Wire
use Rattle.model_message.specs.Canon.{payload_bytes}
use Rattle.otlp_proto.specs.Encode.{Lays}
use Rattle.otlp_proto.proofs.Laying.{no-room}
use Rattle.otlp_proto.proofs.encoder.sink.BufferSink.put_varint.Goals as goal

pub put_varint-self-inside-requires : goal.put_varint-self-inside-requires
unfolding payload_bytes
put_varint-self-inside-requires g c =
    let fits = (c.has_room.ensures _ _ (sym c.self.view_is)).0 c.if-has_room.true in
    omega (
      arith,
      fits,
      c.self.invariant,
      c.varint_size.ensures.size,
      ap length c.as_mut_slice.ensures.value,
    )

pub returns-else-has_room : goal.returns-else-has_room
unfolding payload_bytes
returns-else-has_room g c =
    let full = (c.has_room.ensures _ _ (sym c.self.view_is)).1 c.if-has_room.false in
    subst (λ cursor. Lays (payload_bytes (Wire.varint c.args.value)) cursor cursor) c.self.view_is
    (no-room _ _ _ (omega (arith, full, c.varint_size.ensures.size)))
