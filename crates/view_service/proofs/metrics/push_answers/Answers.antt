use Rattle.std.proofs.Common.{string_bytes}
use Rattle.view_service.specs.Metrics.{answer_metrics}
use Rattle.otlp_json.proofs.Chains.{appended}
use Rattle.view_service.proofs.metrics.push_answers.Goals as goal

pub returns : goal.returns
unfolding answer_metrics
returns g c =
    let s0 = string_bytes c.args.out.now in
    let s1 = string_bytes c.push_help.new.out in
    let s2 = string_bytes c.push_type.new.out in
    appended s0 s2 (string_bytes c.push_all_answered.new.out) _ _
    (appended s0 s1 s2 _ _ c.in_ok-push_help.ensures c.in_ok-push_type.ensures)
    c.in_ok-push_all_answered.ensures
