use Rattle.std.proofs.Common.{◌≡◌, ◌∙◌, Option, IfOk, subst}
use Rattle.otlp_http.specs.Address.{Address}
use Rattle.otel_settings.proofs.Urls.{by_parts}
use Rattle.otel_settings.proofs.endpoint.target_at.Goals as goal

pub returns : goal.returns
returns g c =
    let same =
    by_parts c.args.is_base c.args.url.now c.in-Some.rest.now c.around.result.0.now
    c.around.result.1.now c.around-2.result.0.now
    c.around-2.result.1.now c.as_str.result.now c.as_str-2.result.now c.in-Some-port_in.port
    c.in-Some.ensures c.around.ensures.before
    c.around.ensures.after c.around-2.ensures.before c.around-2.ensures.after
    c.in-Some-port_in.ensures
    (c.as_str.ensures.value ∙ c.in_ok-host.ensures)
    (c.as_str-2.ensures.value ∙ c.in_ok-path.ensures) in
    subst (λ (place : Option Address). IfOk c.allowed_target.result (λ target. target ≡ place)) same
    c.allowed_target.ensures
