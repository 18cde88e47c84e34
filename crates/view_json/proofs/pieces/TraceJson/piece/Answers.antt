use Rattle.std.proofs.Common.{◌≤◌, length, subst, sym}
use Rattle.view_json.specs.Pieces.{IsLeft, IsPieceBetween}
use Rattle.view_json.specs.declared.pieces.Stage.TheVariants.{Head, Spans, End}
use Rattle.view_json.proofs.Stages.{head_piece, tail_piece}
use Rattle.view_json.proofs.pieces.TraceJson.piece.Goals as goal

pub returns-in_ok-text-in-Head-clause-piece : goal.returns-in_ok-text-in-Head-clause-piece
returns-in_ok-text-in-Head-clause-piece g c =
    let spans = c.args.self.now.spans.items in
    let text = c.in_ok-text-in-Head.text.items in
    subst (λ s. IsPieceBetween (IsLeft spans s) (IsLeft spans (Spans 0)) text) (sym c.in-Head.is)
    (subst (IsPieceBetween (IsLeft spans Head) (IsLeft spans (Spans 0)))
    (sym c.in_ok-text-in-Head.ensures.items) (head_piece spans))

pub returns-in_ok-text-in-Spans-2-clause-piece : goal.returns-in_ok-text-in-Spans-2-clause-piece
returns-in_ok-text-in-Spans-2-clause-piece g c =
    let spans = c.args.self.now.spans.items in
    let text = c.in_ok-text-in-Spans-2.text.items in
    let at = c.in-Spans.at in
    subst (λ s. IsPieceBetween (IsLeft spans s) (IsLeft spans End) text) (sym c.in-Spans.is)
    (subst (IsPieceBetween (IsLeft spans (Spans at)) (IsLeft spans End))
    (sym c.in_ok-text-in-Spans-2.ensures.items)
    (tail_piece spans at
    (subst (λ l. length l ≤ at) c.deref-spans.ensures.value c.if-at-spans.false)))
