use Rattle.std.proofs.Common.{◌∙◌, ◌&&◌, ap, sym, codes, take, drop}
use Rattle.std.proofs.lemmas.List.{take_min}
use Rattle.otlp_receiver.specs.Hosts.{is_same_word}
use Rattle.otlp_receiver.specs.Requests.{ends_type}
use Rattle.otlp_receiver.proofs.reply.request.is_json_type.Goals as goal

pub returns-else-is_same_word : goal.returns-else-is_same_word
returns-else-is_same_word c =
    let kind = c.args.kind.now in
    let front =
    c.split_at.ensures.front ∙ ap (λ n. take n kind) c.min.ensures ∙ take_min 16 kind in
    let word =
    c.is_same_word.ensures ∙ ap (λ bs. is_same_word bs (codes "application/json")) front in
    let no = c.if-is_same_word.false in
    no ∙ sym (ap (λ b. b && ends_type (drop 16 kind)) (sym word ∙ no))
