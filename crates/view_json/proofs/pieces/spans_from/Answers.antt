use Rattle.std.proofs.Common.{◌+◌, ℕ, List, arith}
use Rattle.view_json.specs.Pieces.{IsLeft}
use Rattle.view_json.specs.declared.pieces.Stage.TheVariants.{Spans}
use Rattle.view_json.proofs.Printed.{grown}
use Rattle.view_json.proofs.pieces.spans_from.Goals as goal

pub loop-at-preserved : goal.loop-at-preserved
loop-at-preserved g c =
    let left : ℕ → List ℕ → Type 0 = λ at. IsLeft c.args.spans.now (Spans at) in
    let more = c.in_ok-push_span-2.ensures in
    record {
      piece =
          grown (left c.args.from) (left c.loop-at.at)
          (left (c.loop-at.at + 1)) c.loop-at.text.items c.push_span-in-loop-at.new.out.items
          more.piece.0 c.loop-at.invariant.piece more.piece.1 more.piece.2;
      more = omega (arith, c.loop-at.invariant.more, more.more);
    }
