use Rattle.std.proofs.Common.{ap, arith, length, ◌∙◌}
use Rattle.std.specs.Prelude.{decimal}
use Rattle.otlp_http.specs.Fields.{field_lines}
use Rattle.http_exporter.proofs.FrontLemmas.{length-head_in}
use Rattle.http_exporter.proofs.front.head_length.Goals as goal

pub returns : goal.returns
returns g c =
    let whole = length-head_in c.args.coding c.args.connection c.args.target.now c.args.size in
    let path = ap length c.path.ensures.value in
    let host = ap length c.host.ensures.value in
    let port = ap length (c.format-port.ensures.text ∙ ap decimal c.port.ensures) in
    let digits = ap length c.format-digits.ensures.text in
    let coded = ap length c.line.ensures in
    let asked = ap length c.line-2.ensures in
    let own = ap length (c.lines.ensures.value ∙ ap field_lines c.headers.ensures.value) in
    omega (arith, whole, path, host, port, digits, coded, asked, own)
