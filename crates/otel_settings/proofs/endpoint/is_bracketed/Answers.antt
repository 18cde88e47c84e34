use Rattle.std.proofs.Common.{codes}
use Rattle.std.proofs.lemmas.Str.Pattern.{starts_text}
use Rattle.otel_settings.proofs.endpoint.is_bracketed.Goals as goal

pub returns : goal.returns
returns c =
    starts_text c.starts_with.result (codes "[") c.args.authority.now c.starts_with.ensures.cases
