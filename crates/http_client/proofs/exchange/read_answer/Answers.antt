use Rattle.std.proofs.Common.{refl, ap, Ok, ◌∙◌, ◌&&◌, not}
use Rattle.otlp_http.specs.Outcomes.{reply_view}
use Rattle.http_client.specs.Exchanges.{is_head, none, read}
use Rattle.http_client.proofs.exchange.read_answer.Goals as goal

pub returns-in-Ok : goal.returns-in-Ok
returns-in-Ok g c =
    let reply = rw c.limits_for-limits.ensures at c.in-Ok.ensures.reply in
    read (reply_view c.in-Ok.read.reply) reply.0
    (c.may_last-lasts.ensures ∙ ap (λ b. not (is_head c.args.method.now) && b) reply.1)
    (ap Ok c.reply_to.ensures)

pub returns-in-Err : goal.returns-in-Err
returns-in-Err g c =
    none c.in-Err.fault (rw c.limits_for-limits.ensures at c.in-Err.ensures.no_reply) refl refl
