use Rattle.std.proofs.Common.{◌<◌, ◌+◌, ◌++◌, ◌∙◌, ap, append_assoc, arith, length, sym, take}
use Rattle.model_body.specs.Histories.{joined}
use Rattle.relay_queue.specs.Bodies.{bodies_view}
use Rattle.relay_queue.proofs.Lines.{joined-longer, joined-more, joined-rises}
use Rattle.relay_queue.proofs.bodies.append_joined.Goals as goal

pub append_reserved-requires : goal.append_reserved-requires
append_reserved-requires g c =
    let bodies = c.args.bodies.now.items in
    let there : c.loop-index.index < length bodies =
    omega (arith, c.loop-index-test.true, c.requires.there, c.args.bodies.now.ok) in
    let longer = joined-longer bodies c.loop-index.index c.index.result.now there c.index.ensures in
    let fits =
    joined-rises (bodies_view bodies) (c.loop-index.index + 1) c.args.count
    (omega (arith, c.loop-index-test.true)) in
    omega (
      arith,
      longer,
      fits,
      c.loop-index.invariant.len,
      c.loop-index.invariant.capacity,
      c.requires.room,
      c.as_slice.ensures.len,
      c.index.result.now.ok,
    )

pub loop-index-preserved : goal.loop-index-preserved
loop-index-preserved g c =
    let bodies = c.args.bodies.now.items in
    let inv = c.loop-index.invariant in
    let before = joined (take c.loop-index.index (bodies_view bodies)) in
    let there : c.loop-index.index < length bodies =
    omega (arith, c.loop-index-test.true, c.requires.there, c.args.bodies.now.ok) in
    let more = joined-more bodies c.loop-index.index c.index.result.now there c.index.ensures in
    let longer = joined-longer bodies c.loop-index.index c.index.result.now there c.index.ensures in
    record {
      items =
          c.append_reserved.ensures.items
          ∙ ap (λ xs. xs ++ c.as_slice.result.now) inv.items
          ∙ append_assoc c.args.out.now.items before c.as_slice.result.now
          ∙ ap (λ xs. c.args.out.now.items ++ xs)
          (ap (λ xs. before ++ xs) c.as_slice.ensures.value ∙ sym more);
      len =
          omega (
            arith,
            longer,
            inv.len,
            c.append_reserved.ensures.len,
            c.as_slice.ensures.len,
            c.index.result.now.ok,
          );
      capacity = omega (arith, inv.capacity, c.append_reserved.ensures.capacity);
      there = omega (arith, c.loop-index-test.true);
    }
