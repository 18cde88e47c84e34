use Rattle.std.proofs.Common.{◌≡◌, sym, ap, ◌∙◌, rules, true, false, Ok, None, Some}
use Rattle.http_wire.specs.Bodies.{framing_by_length, framing_view}
use Rattle.http_wire.proofs.BodyLemmas.{framing_kept}
use Rattle.http_wire.proofs.body.framing_by_fields.Goals as goal

pub returns-then-is_coded : goal.returns-then-is_coded
returns-then-is_coded c fields keeps =
    c.framing_by_coding.ensures
    ∙ sym (framing_kept (framing_view c.args.otherwise) c.args.kept.now fields true keeps
    (sym c.if-is_coded.true ∙ c.is_coded.ensures))

pub returns-in-Ok-None : goal.returns-in-Ok-None
returns-in-Ok-None c fields keeps =
    let is : c.content_length.result ≡ Ok None = search rules in
    sym (framing_kept (framing_view c.args.otherwise) c.args.kept.now fields false keeps
    (sym c.if-is_coded.false ∙ c.is_coded.ensures)
    ∙ ap (framing_by_length (framing_view c.args.otherwise)) (sym c.content_length.ensures ∙ is))

pub returns-in-Ok-Some : goal.returns-in-Ok-Some
returns-in-Ok-Some c fields keeps =
    let is : c.content_length.result ≡ Ok (Some c.in-Ok-Some.size) = search rules in
    sym (framing_kept (framing_view c.args.otherwise) c.args.kept.now fields false keeps
    (sym c.if-is_coded.false ∙ c.is_coded.ensures)
    ∙ ap (framing_by_length (framing_view c.args.otherwise)) (sym c.content_length.ensures ∙ is))

pub returns-in-Err : goal.returns-in-Err
returns-in-Err c fields keeps =
    sym (framing_kept (framing_view c.args.otherwise) c.args.kept.now fields false keeps
    (sym c.if-is_coded.false ∙ c.is_coded.ensures)
    ∙ ap (framing_by_length (framing_view c.args.otherwise))
    (sym c.content_length.ensures ∙ c.in-Err.is))
