use Rattle.std.proofs.Common.{◌∙◌, ap, sym, Ok}
use Rattle.otlp_receiver.specs.Posts.{post_of}
use Rattle.otlp_receiver.proofs.Contents.{still_packed, unread_text}
use Rattle.otlp_receiver.proofs.content.decode.Goals as goal

pub returns-in-Err-clause-none : goal.returns-in-Err-clause-none
returns-in-Err-clause-none c =
    still_packed c.args.most (post_of c.args.request.now) c.in-Err.why c.in-Err.ensures.none

pub returns-clause-none : goal.returns-clause-none
returns-clause-none c =
    unread_text c.args.most (post_of c.args.request.now) c.content_or.result.now
    c.in-Err-read_text.why (sym c.is_json.ensures ∙ c.if-not-is_json.false)
    (c.in-Ok.ensures.content ∙ ap Ok (sym c.content_or.ensures)) c.in-Err-read_text.ensures.none
