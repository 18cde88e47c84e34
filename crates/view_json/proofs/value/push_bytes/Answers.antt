use Rattle.std.proofs.Common.{◌∙◌, ap, codes}
use Rattle.otlp_json.specs.Seen.{seen, text_member}
use Rattle.otlp_json.proofs.Chains.{written_is}
use Rattle.view_json.proofs.value.push_bytes.Goals as goal

pub returns-clause-seen : goal.returns-clause-seen
returns-clause-seen g c =
    written_is c.push_text.result (seen c.args.out.now.tokens) (seen c.push_text.new.out.tokens) _ _
    (ap (λ t. seen (text_member (codes "bytesValue") t))
    (c.deref.ensures ∙ c.in_ok-text.ensures.text))
    c.push_text.ensures.seen
