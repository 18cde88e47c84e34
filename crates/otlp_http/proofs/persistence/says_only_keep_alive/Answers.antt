use Rattle.std.proofs.Common.{ap, sym, codes, ◌∙◌}
use Rattle.std.specs.List.{list_all}
use Rattle.std.proofs.lemmas.List.Folds.{list_all-map}
use Rattle.http_header.specs.FieldValue.{FieldValue}
use Rattle.http_header.specs.HeaderMap.{get_all}
use Rattle.otlp_http.specs.Persistence.{is_keep_alive}
use Rattle.otlp_http.proofs.persistence.says_only_keep_alive.Goals as goal

pub returns : goal.returns
returns c fields keeps =
    c.are_keep_alive.ensures
    ∙ ap (list_all (λ (v : FieldValue). is_keep_alive v.bytes))
    (c.iter.ensures ∙ c.get_all.ensures.value)
    ∙ sym (list_all-map is_keep_alive (λ (v : FieldValue). v.bytes)
    (get_all c.args.kept.now (codes "connection")))
    ∙ ap (list_all is_keep_alive) (keeps.values (codes "connection"))
