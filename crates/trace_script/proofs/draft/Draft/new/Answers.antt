use Rattle.std.proofs.Common.{map, refl, ap}
use Rattle.retry_core.specs.Retries.{outcome_view}
use Rattle.trace_run.specs.Steps.{step_view}
use Rattle.trace_script.specs.Drafts.{scope_draft_view}
use Rattle.trace_script.proofs.draft.Draft.new.Goals as goal

pub returns : goal.returns
returns g c = record {
  settings = (c.new.ensures.items, refl, refl, refl, refl);
  attributes = (
    rw c.all_attributes.ensures refl,
    rw c.all_attributes.ensures refl,
    ap (map scope_draft_view) c.new-2.ensures.items,
  );
  steps = (ap (map outcome_view) c.new-3.ensures.items, ap (map step_view) c.new-4.ensures.items);
}
