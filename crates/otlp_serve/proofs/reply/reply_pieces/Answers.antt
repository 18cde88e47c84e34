use Rattle.std.proofs.Common.{◌≡◌, ◌≤◌, ◌<◌, ◌+◌, ◌^◌, ◌∙◌, length, subst}
use Rattle.std.specs.Prelude.{decimal}
use Rattle.otlp_serve.specs.Replies.{allow_line, code_of, reason_of}
use Rattle.otlp_serve.proofs.ReplyLemmas.{concat_reply, reply_short, wait_name, wait_end}
use Rattle.otlp_serve.proofs.ReplyLemmas.{wait_parts, name_short, end_short}
use Rattle.otlp_serve.proofs.reply.reply_pieces.Goals as goal

pub returns-clause-whole : goal.returns-clause-whole
returns-clause-whole c =
    let status = c.args.reply.status in
    let seconds = c.args.reply.retry_after in
    let code : c.as_bytes.result.now ≡ decimal (code_of status) =
    c.as_bytes.ensures.value ∙ c.requires.code in
    let reason : c.as_bytes-2.result.now ≡ reason_of status =
    c.as_bytes-2.ensures.value ∙ c.reason_text.ensures in
    let allow : c.as_bytes-3.result.now ≡ allow_line status =
    c.as_bytes-3.ensures.value ∙ c.allow_line.ensures in
    let name : c.as_bytes-4.result.now ≡ wait_name seconds =
    c.as_bytes-4.ensures.value ∙ c.wait_name.ensures in
    let digits : c.as_bytes-5.result.now ≡ c.args.digits.now = c.as_bytes-5.ensures.value in
    let last : c.as_bytes-6.result.now ≡ wait_end seconds =
    c.as_bytes-6.ensures.value ∙ c.wait_end.ensures in
    let whole =
    concat_reply status (wait_name seconds) c.args.digits.now (wait_end seconds) _
    (wait_parts seconds c.args.digits.now c.requires.digits) in
    rw code (rw reason (rw allow (rw name (rw digits (rw last whole)))))

pub returns-clause-short : goal.returns-clause-short
returns-clause-short c =
    let status = c.args.reply.status in
    let seconds = c.args.reply.retry_after in
    let whole =
    concat_reply status (wait_name seconds) c.args.digits.now (wait_end seconds) _
    (wait_parts seconds c.args.digits.now c.requires.digits) in
    let short : length (decimal (code_of status)) + length c.args.digits.now ≤ 80 =
    subst (λ t. length t + length c.args.digits.now ≤ 80) c.requires.code c.requires.short in
    subst (λ t. length t < 2 ^ 64) whole
    (reply_short status (wait_name seconds) c.args.digits.now (wait_end seconds)
    (name_short seconds) (end_short seconds) short)
