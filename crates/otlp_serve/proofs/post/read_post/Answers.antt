use Rattle.http_wire.specs.Bodies.{framing_view}
use Rattle.otlp_serve.proofs.PostLemmas.{no_body}
use Rattle.otlp_serve.proofs.post.read_post.Goals as goal

pub returns-in-Err-read_body-clause-no_post : goal.returns-in-Err-read_body-clause-no_post
returns-in-Err-read_body-clause-no_post g c =
    let head = c.in-Ok.ensures.head in
    let body = c.in-Err-read_body.ensures.body in
    no_body c.args.limits.now _ _ _ _ _ c.in-Ok.head.fields
    (framing_view c.request_framing-framing.result) body.0 _ _ _ c.in-Err-read_body.fault
    head (c.request_framing-framing.ensures _ head.keeps) c.in-Ok.ensures.kept body.1 body.2
