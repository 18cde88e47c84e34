use Rattle.std.proofs.Common.{ap, ◌∙◌, refl, option_map}
use Rattle.trace_api.specs.Starts.{ids_view}
use Rattle.trace_api.proofs.provider.Tracer.decide.Goals as goal

pub returns-in_err-ids : goal.returns-in_err-ids
returns-in_err-ids g c = record {
  ids =
      ap (option_map (λ decided. ids_view decided.ids)) c.from_residual.ensures
      ∙ (rw c.valid-parent.ensures.value at c.in_err-ids.ensures.value);
  spent = rw c.valid-parent.ensures.value at c.in_err-ids.ensures.spent;
  decided = rw c.from_residual.ensures tt;
}

pub returns : goal.returns
returns g c = record {
  ids = rw c.valid-parent.ensures.value at c.in_ok-ids.ensures.value;
  spent = rw c.valid-parent.ensures.value at c.in_ok-ids.ensures.spent;
  decided = record {
    parent_is = c.valid-parent.ensures.value;
    decision_is =
        c.should_sample-decision.ensures
        ∙ rw (
          ap (λ t. t.sampler) c.provider.view_is ∙ ap (λ t. t.provider.sampler) c.self.view_is,
          c.valid-parent.ensures.value,
        ) refl;
  };
}
