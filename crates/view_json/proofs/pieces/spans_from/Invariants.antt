use Rattle.std.proofs.Common.{◌<◌, ◌-◌, length}
use Rattle.view_json.specs.Pieces.{IsLeft, IsPieceBetween}
use Rattle.view_json.specs.declared.pieces.Stage.TheVariants.{Spans}
use Rattle.view_json.proofs.pieces.spans_from.Given as goal

-- the text is the spans from the first one up to this place
abbrev pub invariant-loop-at : goal.invariant-loop-at
invariant-loop-at g l = record {
  piece : IsPieceBetween (IsLeft l.spans (Spans l.from)) (IsLeft l.spans (Spans l.at)) l.text.items;
  more : 0 < length l.text.items;
}

abbrev pub decreases-loop-at : goal.decreases-loop-at
decreases-loop-at g l = length l.spans - l.at
