use Rattle.std.proofs.Common.{sym, ap, ◌∙◌}
use Rattle.http_exporter.specs.Compressed.{keeping}
use Rattle.http_exporter.proofs.kept_file.has_file.Goals as goal

pub returns-in-Some-clause-kept : goal.returns-in-Some-clause-kept
returns-in-Some-clause-kept g c = λ same. (
  c.in-Some.last.file,
  c.in-Some.is
      ∙ ap (λ b. keeping b c.in-Some.last.file) (sym c.body.ensures ∙ c.is_same.ensures.0 same),
)
