use Rattle.std.proofs.Common.{◌≡◌, ◌++◌, ◌∙◌, ap, decimal, lit<, rules, string_bytes}
use Rattle.view_service.specs.Metrics.{answered_text}
use Rattle.otlp_json.proofs.Chains.{appended}
use Rattle.view_service.proofs.metrics.push_answered.Goals as goal

pub returns : goal.returns
unfolding answered_text
returns g c =
    let s0 = string_bytes c.args.out.now in
    let s1 = string_bytes c.push_str.new.self in
    let s2 = string_bytes c.push.new.self in
    let s3 = string_bytes c.write.new.self in
    let s4 = string_bytes c.push-2.new.self in
    let status : s3 ≡ s2 ++ decimal c.args.answered.now.status = search rules in
    appended s0 s4 (string_bytes c.push_sample.new.out) _ _
    (appended s0 s3 s4 _ _
    (appended s0 s2 s3 _ _
    (appended s0 s1 s2 _ _ c.in_ok-push_str.ensures.bytes
    (c.in_ok-push.ensures.bytes ∙ ap (λ l. s1 ++ l) (c.in_ok-push.ensures.ascii (lit< tt))))
    status)
    (c.in_ok-push-2.ensures.bytes ∙ ap (λ l. s3 ++ l) (c.in_ok-push-2.ensures.ascii (lit< tt))))
    c.in_ok-push_sample.ensures
