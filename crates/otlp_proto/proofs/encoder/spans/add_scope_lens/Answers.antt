use Rattle.std.proofs.Common.{take_all}
use Rattle.otlp_proto.proofs.Writing.{through-index}
use Rattle.otlp_proto.proofs.Lens.{adds-none, adds-both, adds-one}
use Rattle.otlp_proto.proofs.encoder.spans.add_scope_lens.Goals as goal

pub loop-span-init : goal.loop-span-init
loop-span-init g c = adds-none _

pub loop-span-preserved : goal.loop-span-preserved
loop-span-preserved g c =
    rw (through-index (λ s. s.now) c.deref-span-items.result.now c.loop-span.span-index
    c.span-item.result c.loop-span-test.true c.span-item.is)
    (adds-both _ _ c.loop-span.invariant
    (adds-one c.span-item.result.now _ c.encoded_len.ensures c.in_ok-push.ensures.items))

pub returns : goal.returns
returns g c =
    rw (
      take_all c.loop-span.span-index c.deref-span-items.result.now c.loop-span-test.false,
      c.deref-span-items.ensures.value,
    ) at c.loop-span.invariant
