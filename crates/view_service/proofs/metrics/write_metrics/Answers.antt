use Rattle.std.proofs.Common.{string_bytes}
use Rattle.view_service.specs.Metrics.{metrics_text}
use Rattle.otlp_json.proofs.Chains.{appended}
use Rattle.view_service.proofs.metrics.write_metrics.Goals as goal

pub returns : goal.returns
unfolding metrics_text
returns g c =
    let s0 = string_bytes c.args.out.now in
    let s1 = string_bytes c.push_span_metrics.new.out in
    let s2 = string_bytes c.push_trace_metrics.new.out in
    let s3 = string_bytes c.push_pending.new.out in
    let s4 = string_bytes c.push_metric.new.out in
    appended s0 s4 (string_bytes c.push_answers.new.out) _ _
    (appended s0 s3 s4 _ _
    (appended s0 s2 s3 _ _
    (appended s0 s1 s2 _ _ c.in_ok-push_span_metrics.ensures c.in_ok-push_trace_metrics.ensures)
    c.in_ok-push_pending.ensures)
    c.in_ok-push_metric.ensures)
    c.in_ok-push_answers.ensures
