use Rattle.std.proofs.Common.{◌≡◌, ◌∙◌, ◌+◌, ◌++◌, [], ◌∷◌, Some, add-one, ap, arith, drop}
use Rattle.std.proofs.Common.{drop-drop, length, option_to_list, slice_get, sym}
use Rattle.batch_desk.proofs.Names.{one-moved}
use Rattle.batch_desk.proofs.batch.move_first.Goals as goal

pub loop-preserved : goal.loop-preserved
loop-preserved g c =
    let left = c.pop_front.new.self.items in
    let span = c.unwrap.result in
    let all = c.args.run.now.items in
    let first : c.loop.run.items ≡ span ∷ left =
    c.pop_front.ensures.first ∙ ap (λ o. option_to_list o ++ left) c.unwrap.ensures in
    let there : slice_get (drop c.loop.counter all) 0 ≡ Some span =
    ap (λ zs. slice_get zs 0) (sym c.loop.invariant.rest ∙ first) in
    let fewer : length c.loop.run.items ≡ length left + 1 =
    ap length first ∙ sym (add-one (length left)) in
    record {
      moved = c.push_reserved.ensures.items
          ∙ ap (λ zs. zs ++ span ∷ []) c.loop.invariant.moved
          ∙ one-moved c.args.into.now.items all c.loop.counter span there;
      rest = ap (drop 1) (sym first ∙ c.loop.invariant.rest) ∙ drop-drop 1 c.loop.counter all;
      room = c.pop_front.ensures.room ∙ c.loop.invariant.room;
      len = omega (arith, c.push_reserved.ensures.len, c.loop.invariant.len);
      capacity = c.push_reserved.ensures.capacity ∙ c.loop.invariant.capacity;
      left = omega (arith, fewer, c.loop.invariant.left);
    }
