use Rattle.std.proofs.Common.{◌≡◌, ◌∙◌, ap, length}
use Rattle.std.specs.Prelude.{decimal}
use Rattle.otlp_http.specs.Fields.{field_lines}
use Rattle.otlp_http.proofs.RequestLemmas.{concat_request}
use Rattle.otlp_http.proofs.request.request_pieces.Goals as goal

pub returns-clause-whole : goal.returns-clause-whole
returns-clause-whole g c coding connection codes_are is =
    let path : c.as_bytes.result.now ≡ c.args.target.now.path =
    c.as_bytes.ensures.value ∙ c.path.ensures.value in
    let host : c.as_bytes-2.result.now ≡ c.args.target.now.host =
    c.as_bytes-2.ensures.value ∙ c.host.ensures.value in
    let port : c.as_bytes-3.result.now ≡ decimal c.args.target.now.port =
    c.as_bytes-3.ensures.value ∙ c.requires.port in
    let digits : c.as_bytes-4.result.now ≡ decimal (length c.args.body.now) =
    c.as_bytes-4.ensures.value ∙ c.requires.digits in
    let own : c.lines.result.now ≡ field_lines c.args.target.now.fields =
    c.lines.ensures.value ∙ ap field_lines c.headers.ensures.value in
    let whole = concat_request coding connection c.args.target.now c.args.body.now in
    rw path (rw host (rw port (rw digits (rw own (rw codes_are (rw is whole))))))
