use Rattle.std.proofs.Common.{arith}
use Rattle.otlp_receiver.proofs.ReadingSizes.{not-above}
use Rattle.otlp_receiver.proofs.reading.is_above.Goals as goal

pub returns-then-most-room : goal.returns-then-most-room
returns-then-most-room c =
    not-above c.args.content.now _ c.saturating_mul-most.result c.args.room
    c.saturating_mul-most.ensures c.if-most-room.true (omega arith)
