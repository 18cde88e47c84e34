use Rattle.std.proofs.Common.{◌≡◌, List, [], ◌∷◌, map, Option, Some, None, refl, ap, ◌∙◌}
use Rattle.std.specs.Prelude.{option_map, unwrap_or}
use Rattle.std.specs.Option.{UnwrapsOrElse}
use Rattle.otlp_span.specs.Parts.{limits_view}
use Rattle.model_span.specs.Spans as spans
use Rattle.model_span.specs.Spans.{default_limits}
use Rattle.batch_desk.specs.Desk.{default_config}
use Rattle.batch_desk.specs.Views.{config_view}
use Rattle.trace_script.specs.Scripts.{kept_scope}
use Rattle.trace_script.specs.Drafts.{scope_draft, finished_scope}
use Rattle.trace_script.specs.declared.sampler.SamplerName.TheVariants.{AlwaysOn}
use Rattle.trace_script.proofs.parse.Script.from_draft.Goals as goal

-- what is set, or the standard's
or_standard : {X Y : Type 0} (view : X → Y) (standard : Y) (o : Option X) (x : X) (P : X → Type 0)
    → UnwrapsOrElse o P x → (P x → view x ≡ standard)
    → view x ≡ unwrap_or (option_map view o) standard
or_standard view standard None x P e is = is e
or_standard view standard (Some y) x P e is = ap view e

-- what is left of the attributes of each scope
kept_each : (xs : List spans.Scope) → map finished_scope (map scope_draft xs) ≡ map kept_scope xs
kept_each [] = refl
kept_each (x ∷ xs) = ap (λ ys. kept_scope x ∷ ys) (kept_each xs)

pub returns : goal.returns
returns g c = λ s h. record {
  words = h.settings.0;
  sampler = c.unwrap_or.ensures ∙ ap (λ o. unwrap_or o AlwaysOn) h.settings.1;
  limits =
      or_standard limits_view default_limits c.args.draft.limits _ _ c.unwrap_or_default.ensures
      (λ is. is)
      ∙ ap (λ o. unwrap_or o default_limits) h.settings.2;
  desk =
      or_standard config_view default_config c.args.draft.desk _ _ c.unwrap_or_default-2.ensures
      (λ is. is)
      ∙ ap (λ o. unwrap_or o default_config) h.settings.3;
  max_body = h.settings.4;
  resource = c.into_pairs.ensures ∙ ap (λ kept. kept.items) h.attributes.1;
  scopes =
      c.in_ok-finished_scopes.ensures ∙ ap (map finished_scope) h.attributes.2 ∙ kept_each s.scopes;
  outcomes = h.steps.0;
  steps = h.steps.1;
}
