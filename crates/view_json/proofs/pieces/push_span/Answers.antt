use Rattle.std.proofs.Common.{◌++◌, ◌∙◌, ap, append_assoc, arith, length, length-append, nat_lt}
use Rattle.json.specs.Print.{print}
use Rattle.view_json.specs.Pieces.{comma_if}
use Rattle.view_json.proofs.Stages.{span_piece, span_some}
use Rattle.view_json.proofs.pieces.push_span.Goals as goal

pub returns-clause-piece : goal.returns-clause-piece
returns-clause-piece g c =
    let w = c.in_ok-object.ensures in
    let comma = comma_if (nat_lt 0 c.args.at) in (
      comma ++ print w.0,
      c.in_ok-extend_from_slice.ensures.items
          ∙ ap (λ l. c.push_comma.new.out.items ++ l) (c.deref.ensures.value ∙ w.1)
          ∙ ap (λ l. l ++ print w.0) c.in_ok-push_comma.ensures
          ∙ append_assoc c.args.out.now.items comma (print w.0),
      span_piece c.args.spans.now c.args.at c.index-spans-at.result w.0 c.requires
          c.index-spans-at.is w.2 w.3 w.4,
    )

pub returns-clause-more : goal.returns-clause-more
returns-clause-more g c =
    let w = c.in_ok-object.ensures in
    let comma = comma_if (nat_lt 0 c.args.at) in
    omega (
      arith,
      ap length c.in_ok-extend_from_slice.ensures.items,
      ap length c.deref.ensures.value,
      ap length w.1,
      ap length c.in_ok-push_comma.ensures,
      length-append c.push_comma.new.out.items c.deref.result.now,
      length-append c.args.out.now.items comma,
      span_some c.index-spans-at.result w.0 w.3,
    )
