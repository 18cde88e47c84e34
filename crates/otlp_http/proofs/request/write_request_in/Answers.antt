use Rattle.std.proofs.Common.{◌<◌, ◌≤◌, ◌^◌, length, arith, sym, subst, ap, ◌∙◌}
use Rattle.std.specs.Prelude.{decimal}
use Rattle.otlp_http.specs.Request.{text_in}
use Rattle.otlp_http.proofs.RequestLemmas.{length-text_in}
use Rattle.otlp_http.proofs.request.write_request_in.Goals as goal

pub write_pieces-requires : goal.write_pieces-requires
write_pieces-requires g c =
    let whole = length-text_in c.args.coding c.args.connection c.args.target.now c.args.body.now in
    let port : length (decimal c.args.target.now.port) ≤ 40 =
    subst (λ t. length t ≤ 40)
    (c.format-port.ensures.text ∙ ap decimal c.port.ensures) c.format-port.ensures.short in
    let digits : length (decimal (length c.args.body.now)) ≤ 40 =
    subst (λ t. length t ≤ 40) c.format-digits.ensures.text c.format-digits.ensures.short in
    let target = c.request_pieces-pieces.ensures.short in
    let few = c.request_pieces-pieces.ensures.few in
    let short : length (text_in c.args.coding c.args.connection c.args.target.now c.args.body.now)
    < 2 ^ 64 =
    omega (arith, whole, port, digits, target, few) in
    subst (λ t. length t < 2 ^ 64)
    (sym (c.request_pieces-pieces.ensures.whole c.args.coding c.args.connection c.line-coded.ensures
    c.line-asked.ensures))
    short
