use Rattle.law_export.proofs.Regrouped.{all-grouped, of-one-scope, resource-once, scope-once}
use Rattle.law_export.proofs.Regrouped.{none-empty, resources-in-order, scopes-in-order}
use Rattle.law_export.proofs.spans.groups_are_the_spans.Goals as goal

pub returns : goal.returns
returns c = record {
  all = all-grouped;
  same = of-one-scope;
  resource_once = resource-once;
  scope_once = scope-once;
  not_empty = none-empty;
  resources_in_order = resources-in-order;
  scopes_in_order = scopes-in-order;
}
