use Rattle.std.proofs.Common.{◌∙◌, sym}
use Rattle.otlp_receiver.specs.Posts.{IsDenied, post_of}
use Rattle.otlp_receiver.proofs.Contents.{turned_away}
use Rattle.otlp_receiver.proofs.post.content_in.Goals as goal

pub returns-in-Some-clause-none : goal.returns-in-Some-clause-none
returns-in-Some-clause-none c =
    IsDenied.refused c.in-Some.reply (sym c.refusal_in.ensures ∙ c.in-Some.is)
    c.denial_by_reply.ensures

pub returns-in-Err-clause-none : goal.returns-in-Err-clause-none
returns-in-Err-clause-none c =
    turned_away c.args.most (post_of c.args.request.now) c.in-Err.why
    (sym c.refusal_in.ensures ∙ c.in_default.is) c.in-Err.ensures.none
