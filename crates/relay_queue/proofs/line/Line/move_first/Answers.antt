use Rattle.std.proofs.Common.{◌≡◌, ◌∙◌, ◌+◌, ◌++◌, [], ◌∷◌, add-one, ap, arith, drop}
use Rattle.std.proofs.Common.{drop-drop, length, sym}
use Rattle.std.specs.Prelude.{option_map}
use Rattle.std.specs.Option.{option_to_list}
use Rattle.relay_queue.specs.Bodies.{bodies_view}
use Rattle.relay_queue.proofs.Lines.{moved-more, view_push}
use Rattle.relay_queue.proofs.line.Line.move_first.Goals as goal

pub loop-preserved : goal.loop-preserved
loop-preserved g c =
    let rest = c.pop.new.self in
    let body = c.unwrap.result in
    let all = c.args.self.now in
    let inv = c.loop.invariant in
    let first : c.loop.self ≡ body.items ∷ rest =
    c.pop.ensures.first
    ∙ ap (λ o. option_to_list (option_map (λ b. b.items) o) ++ rest) c.unwrap.ensures in
    let there = sym inv.rest ∙ first in
    let fewer : length c.loop.self ≡ length rest + 1 =
    ap length first ∙ sym (add-one (length rest)) in
    record {
      moved =
          ap bodies_view c.push_reserved.ensures.items
          ∙ view_push c.loop.into.items body
          ∙ ap (λ zs. zs ++ body.items ∷ []) inv.moved
          ∙ moved-more (bodies_view c.args.into.now.items) all c.loop.counter body.items rest there;
      rest = ap (drop 1) (sym first ∙ inv.rest) ∙ drop-drop 1 c.loop.counter all;
      len = omega (arith, c.push_reserved.ensures.len, inv.len);
      capacity = c.push_reserved.ensures.capacity ∙ inv.capacity;
      left = omega (arith, fewer, inv.left);
    }
