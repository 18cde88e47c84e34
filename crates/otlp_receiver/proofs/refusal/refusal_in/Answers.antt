use Rattle.std.proofs.Common.{◌∙◌, ap, sym, not}
use Rattle.std.specs.Prelude.{codes, bytes_eq, is_some}
use Rattle.otlp_serve.specs.Answers.{field_values, is_for_traces, is_protobuf}
use Rattle.otlp_receiver.specs.Contents.{coding_in, is_json_post}
use Rattle.otlp_receiver.specs.Posts.{post_of, unless_type}
use Rattle.otlp_receiver.proofs.Refusals.{as_before, read_too}
use Rattle.otlp_receiver.proofs.refusal.refusal_in.Goals as goal

pub returns-then-is_json_in_coding : goal.returns-then-is_json_in_coding
returns-then-is_json_in_coding c =
    let post = post_of c.args.request.now in
    c.unless_type.ensures ∙ ap unless_type c.binary_refusal-reply.ensures
    ∙ read_too (is_json_post post) (is_protobuf (field_values post (codes "content-type")))
    (is_some (coding_in post)) (not (is_for_traces post.target))
    (not (bytes_eq post.method (codes "POST")))
    (sym c.is_json_in_coding.ensures ∙ c.if-is_json_in_coding.true)

pub returns-else-is_json_in_coding : goal.returns-else-is_json_in_coding
returns-else-is_json_in_coding c =
    let post = post_of c.args.request.now in
    c.binary_refusal-reply.ensures
    ∙ as_before (is_json_post post) (is_protobuf (field_values post (codes "content-type")))
    (is_some (coding_in post)) (not (is_for_traces post.target))
    (not (bytes_eq post.method (codes "POST")))
    (sym c.is_json_in_coding.ensures ∙ c.if-is_json_in_coding.false)
