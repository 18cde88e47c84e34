use Rattle.otlp_http.proofs.LastingLemmas.{lasting}
use Rattle.otlp_http.proofs.reply.read_lasting_reply.Goals as goal

pub returns-clause-reply : goal.returns-clause-reply
returns-clause-reply g c =
    let body = c.read_body-body.ensures.body in
    lasting _ _ _ _ _ _ _ _ _ _ _ _ _ _ body.0 c.in-Ok.ensures.head c.in-Ok.ensures.kept
    c.framing_of-framing.ensures c.retry_after.ensures
    body.1 body.2 c.lasts_with-lasts.ensures
