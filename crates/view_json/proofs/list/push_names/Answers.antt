use Rattle.std.proofs.Common.{◌++◌, ◌∙◌, ap, codes}
use Rattle.view_json.specs.Lists.{name_members}
use Rattle.otlp_json.specs.Seen.{hex_member}
use Rattle.otlp_json.proofs.Chains.{appended}
use Rattle.view_json.proofs.list.push_names.Goals as goal

pub returns-clause-tokens : goal.returns-clause-tokens
unfolding name_members
returns-clause-tokens g c =
    let s0 = c.args.out.now.tokens in
    let s1 = c.push_hex.new.out.tokens in
    let s2 = c.push_short.new.out.tokens in
    appended s0 s2 c.push_short-2.new.out.tokens _ _
    (appended s0 s1 s2 _ _
    (c.in_ok-push_hex.ensures.tokens
    ∙ ap (λ l. s0 ++ hex_member (codes "traceId") l) c.to_be_bytes.ensures)
    c.in_ok-push_short.ensures.tokens)
    c.in_ok-push_short-2.ensures.tokens
