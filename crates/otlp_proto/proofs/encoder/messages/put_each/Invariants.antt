use Rattle.std.proofs.Common.{map, take}
use Rattle.std.specs.List.{AllByRecursion}
use Rattle.model_message.specs.Canon.{row_bytes, bytes_field}
use Rattle.otlp_proto.specs.Encode.{Carries}
use Rattle.otlp_proto.proofs.encoder.messages.put_each.Given as goal

-- The messages so far are put.
abbrev pub invariant-loop-item : goal.invariant-loop-item
invariant-loop-item g l =
    let views = map (g.T.Submessage.view) (take l.item-index l.items) in
    Carries (row_bytes (map (λ v. bytes_field l.number (g.T.Submessage.bytes v)) views))
    (AllByRecursion (g.T.Submessage.is_whole) views) (g.S.Sink.cursor l.fn.sink)
    (g.S.Sink.cursor l.sink)
