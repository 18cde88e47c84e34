use Rattle.std.proofs.Common.{arith, sym, subst, length, ap}
use Rattle.otlp_proto.specs.Encode.{Lays}
use Rattle.otlp_proto.proofs.Laying.{no-room}
use Rattle.otlp_proto.proofs.encoder.sink.BufferSink.put_bytes.Goals as goal

pub put_bytes-self-inside-requires : goal.put_bytes-self-inside-requires
put_bytes-self-inside-requires g c =
    let fits = (c.has_room.ensures _ _ (sym c.self.view_is)).0 c.if-has_room.true in
    omega (arith, fits, c.self.invariant, ap length c.as_mut_slice.ensures.value)

pub returns-else-has_room : goal.returns-else-has_room
returns-else-has_room g c =
    let full = (c.has_room.ensures _ _ (sym c.self.view_is)).1 c.if-has_room.false in
    subst (λ cursor. Lays c.args.bytes.now cursor cursor) c.self.view_is
    (no-room c.args.bytes.now _ _ full)
