use Rattle.otel_settings.specs.Endpoints.{after_text}
use Rattle.otel_settings.proofs.Urls.{stripped}
use Rattle.otel_settings.proofs.endpoint.after_text.Goals as goal

pub returns : goal.returns
unfolding after_text
returns c =
    stripped c.args.front.now c.args.text.now c.strip_prefix.result c.strip_prefix.ensures.cases
