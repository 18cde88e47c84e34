use Rattle.std.proofs.Common.{rules}
use Rattle.otlp_json.proofs.Pieces.{all_pieces, next_piece}
use Rattle.otlp_json.proofs.mend.mend.Goals as goal

pub loop-rest-preserved : goal.loop-rest-preserved
loop-rest-preserved g c =
    next_piece c.args.text.now c.loop-rest.out.items c.loop-rest.rest.now
    c.first_piece-piece.result.now _ c.after-rest.result.now c.loop-rest.invariant (search rules)
    c.first_piece-piece.ensures.some c.first_piece-piece.ensures.within
    c.first_piece-piece.ensures.value c.in_ok-extend_from_slice.ensures.items c.after-rest.ensures

pub returns-clause-value : goal.returns-clause-value
returns-clause-value g c =
    all_pieces c.args.text.now c.loop-rest.out.items c.loop-rest.rest.now c.loop-rest.invariant
    (search rules)
