use Rattle.std.proofs.Common.{◌∙◌, string_bytes, sym}
use Rattle.std.proofs.lemmas.List.Folds.{list_all-map}
use Rattle.http_listener.specs.Origins.{is_origin}
use Rattle.trace_view.proofs.origins.are_origins.Goals as goal

pub returns : goal.returns
returns c =
    c.is_each_origin.ensures
    ∙ sym (list_all-map is_origin (λ word. string_bytes word) c.args.texts.now)
