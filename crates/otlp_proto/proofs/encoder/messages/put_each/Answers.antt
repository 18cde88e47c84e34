use Rattle.std.proofs.Common.{map, take}
use Rattle.otlp_proto.proofs.Writing.{each-none, each-more, through-index}
use Rattle.otlp_proto.proofs.encoder.messages.put_each.Goals as goal

pub loop-item-init : goal.loop-item-init
loop-item-init g c = each-none c.args.number g.T.Submessage.bytes g.T.Submessage.is_whole

pub loop-item-preserved : goal.loop-item-preserved
loop-item-preserved g c =
    let view = g.T.Submessage.view in
    rw (through-index view c.args.items.now c.loop-item.item-index c.item-item.result
    c.loop-item-test.true c.item-item.is)
    (each-more c.args.number g.T.Submessage.bytes g.T.Submessage.is_whole
    (map view (take c.loop-item.item-index c.args.items.now))
    (view c.item-item.result) c.loop-item.invariant c.put_one.ensures)
