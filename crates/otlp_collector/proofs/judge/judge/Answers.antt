use Rattle.std.proofs.Common.{ap, refl, subst, sym, Some}
use Rattle.model_message.specs.Reading.{Reads}
use Rattle.model_message.specs.Messages.{meaning}
use Rattle.model_message.specs.Tables
use Rattle.otlp_wire.specs.Faults.{NamesOne}
use Rattle.otlp_read.specs.Requests.{request_view}
use Rattle.otlp_serve.specs.Posts.{post_view}
use Rattle.otlp_collector.specs.Answering.{no_post, refused, taken, unread}
use Rattle.otlp_collector.proofs.judge.judge.Goals as goal

pub returns-in-Err : goal.returns-in-Err
returns-in-Err g c =
    no_post c.in-Err.fault c.in-Err.ensures.no_post c.in-Err.ensures.failed c.reply.ensures refl

pub returns-in-Some : goal.returns-in-Some
returns-in-Some g c =
    refused (post_view c.in-Ok.post) c.in-Ok.ensures.post c.in-Ok.ensures.kept c.in-Some.reply
    (sym c.in-Some.ensures) refl refl

pub returns-in-Ok-read_request : goal.returns-in-Ok-read_request
returns-in-Ok-read_request g c =
    let request = request_view c.in-Ok-read_request.request in
    let reads =
    subst (λ body. Reads (meaning Tables.request body) request) c.deref.ensures.value
    c.in-Ok-read_request.ensures.ok in
    taken (post_view c.in-Ok.post) c.in-Ok.ensures.post c.in-Ok.ensures.kept
    (sym c.in_default.ensures) request reads (ap Some c.canned_reply.ensures) refl

pub returns : goal.returns
returns g c =
    let fault = c.in-Err-read_request.fault in
    let names =
    subst (λ body. NamesOne (meaning Tables.request body).faults fault) c.deref.ensures.value
    c.in-Err-read_request.ensures.err in
    unread (post_view c.in-Ok.post) c.in-Ok.ensures.post c.in-Ok.ensures.kept
    (sym c.in_default.ensures) fault names (ap Some c.reply_to_unread.ensures) refl
