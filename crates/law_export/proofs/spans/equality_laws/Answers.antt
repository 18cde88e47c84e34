use Rattle.model_export.proofs.Equalities.{resource_eq-Decides, scope_eq-Decides}
use Rattle.law_export.proofs.spans.equality_laws.Goals as goal

pub returns : goal.returns
returns c = record {
  resource = resource_eq-Decides;
  scope = scope_eq-Decides;
}
