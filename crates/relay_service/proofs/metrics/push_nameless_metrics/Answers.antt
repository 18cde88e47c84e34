use Rattle.std.proofs.Common.{string_bytes}
use Rattle.otlp_json.proofs.Chains.{appended}
use Rattle.relay_service.specs.Stats.{nameless_metrics}
use Rattle.relay_service.proofs.metrics.push_nameless_metrics.Goals as goal

pub returns : goal.returns
unfolding nameless_metrics
returns g c =
    let s0 = string_bytes c.args.out.now in
    let s1 = string_bytes c.push_metric.new.out in
    appended s0 s1 (string_bytes c.push_metric-2.new.out) _ _
    c.in_ok-push_metric.ensures c.in_ok-push_metric-2.ensures
