use Rattle.std.proofs.Common.{string_bytes}
use Rattle.otlp_json.proofs.Chains.{appended}
use Rattle.relay_service.specs.Stats.{metrics_text}
use Rattle.relay_service.proofs.metrics.write_metrics.Goals as goal

pub returns : goal.returns
unfolding metrics_text
returns g c =
    let s0 = string_bytes c.args.out.now in
    let s1 = string_bytes c.push_body_metrics.new.out in
    let s2 = string_bytes c.push_span_metrics.new.out in
    let s3 = string_bytes c.push_nameless_metrics.new.out in
    let s4 = string_bytes c.push_metric.new.out in
    let s5 = string_bytes c.push_metric-2.new.out in
    let s6 = string_bytes c.push_metric-3.new.out in
    appended s0 s6 (string_bytes c.push_metric-4.new.out) _ _
    (appended s0 s5 s6 _ _
    (appended s0 s4 s5 _ _
    (appended s0 s3 s4 _ _
    (appended s0 s2 s3 _ _
    (appended s0 s1 s2 _ _ c.in_ok-push_body_metrics.ensures c.in_ok-push_span_metrics.ensures)
    c.in_ok-push_nameless_metrics.ensures)
    c.in_ok-push_metric.ensures)
    c.in_ok-push_metric-2.ensures)
    c.in_ok-push_metric-3.ensures)
    c.in_ok-push_metric-4.ensures
