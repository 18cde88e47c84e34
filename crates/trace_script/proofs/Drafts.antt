-- How a draft goes on as the script does.
use Rattle.std.proofs.Common.{◌≡◌, ℕ, zero, suc, ◌<◌, true, false, List, [], ◌∷◌, ◌++◌, length, map}
use Rattle.std.proofs.Common.{Some, Vec, slice_get, refl, sym, ap, ◌∙◌, subst}
use Rattle.std.specs.Prelude.{is_some}
use Rattle.std.specs.List.{slice_set}
use Rattle.std.proofs.lemmas.Bool.{eq-eqb, lt-ltb}
use Rattle.std.proofs.lemmas.List.{map_push, length-map}
use Rattle.std.proofs.lemmas.Option.{slice_get_within}
use Rattle.model_span.specs.Attributes as attributes
use Rattle.model_span.specs.Attributes.{AttributeList, SetsPair}
use Rattle.model_span.specs.Spans as spans
use Rattle.otlp_span.specs.declared.parts.SpanLimits.{SpanLimits}
use Rattle.otlp_span.specs.Parts.{limits_view}
use Rattle.batch_desk.specs.declared.config.DeskConfig.{DeskConfig}
use Rattle.batch_desk.specs.Views.{config_view}
use Rattle.retry_core.specs.declared.outcome.Outcome.{Outcome}
use Rattle.retry_core.specs.Retries.{outcome_view}
use Rattle.trace_script.specs.declared.sampler.SamplerName.{SamplerName}
use Rattle.trace_run.specs.declared.step.Step.{Step as CodeStep}
use Rattle.trace_script.specs.declared.draft.Draft.{Draft}
use Rattle.trace_run.specs.Steps.{step_view}
use Rattle.trace_script.specs.Lines.{words, sampler, limits, desk, max_body, resource, scope}
use Rattle.trace_script.specs.Lines.{scope_attribute, outcome, step}
use Rattle.trace_script.specs.declared.scope.ScopeDraft.{ScopeDraft}
use Rattle.trace_script.specs.Scripts.{Script, all_kept, with_attributes}
use Rattle.trace_script.specs.Drafts.{Holds, scope_draft_view, scope_draft, no_items, set_on}
use Rattle.trace_script.specs.Drafts.{with_line}

-- A draft with the words of one more line holds the script with this line.
pub add_words : {A : Type 0} (d : Draft A) (after : Vec ℕ A) (s : Script) (more : List ℕ)
    → no_items s.steps ≡ true → after.items ≡ d.words.items ++ more → Holds d s
    → (t : Script) × (with_line s (words more) ≡ Some t) × Holds (record d { words = after }) t
unfolding with_line
add_words d after s more first e h = (
  record s { words = s.words ++ more },
  rw first refl,
  record {
    settings = (
      e ∙ ap (λ l. l ++ more) h.settings.0,
      h.settings.1,
      h.settings.2,
      h.settings.3,
      h.settings.4,
    );
    attributes = h.attributes;
    steps = h.steps;
  },
)

-- A draft without a sampler that gets one holds the script with its `sampler` line.
pub set_sampler : {A : Type 0} (d : Draft A) (s : Script) (name : SamplerName)
    → no_items s.steps ≡ true → is_some s.sampler ≡ false → Holds d s
    → (t : Script) × (with_line s (sampler name) ≡ Some t)
    × Holds (record d { sampler = Some name }) t
unfolding with_line
set_sampler d s name first none h = (
  record s { sampler = Some name },
  rw (first, none) refl,
  record {
    settings = (h.settings.0, refl, h.settings.2, h.settings.3, h.settings.4);
    attributes = h.attributes;
    steps = h.steps;
  },
)

-- A draft without limits that gets some holds the script with their `limits` line.
pub set_limits : {A : Type 0} (d : Draft A) (s : Script) (values : SpanLimits)
    → no_items s.steps ≡ true → is_some s.limits ≡ false → Holds d s
    → (t : Script) × (with_line s (limits (limits_view values)) ≡ Some t)
    × Holds (record d { limits = Some values }) t
unfolding with_line
set_limits d s values first none h = (
  record s { limits = Some (limits_view values) },
  rw (first, none) refl,
  record {
    settings = (h.settings.0, h.settings.1, refl, h.settings.3, h.settings.4);
    attributes = h.attributes;
    steps = h.steps;
  },
)

-- A draft without queue settings that gets some holds the script with their `desk` line.
pub set_desk : {A : Type 0} (d : Draft A) (s : Script) (config : DeskConfig)
    → no_items s.steps ≡ true → is_some s.desk ≡ false → Holds d s
    → (t : Script) × (with_line s (desk (config_view config)) ≡ Some t)
    × Holds (record d { desk = Some config }) t
unfolding with_line
set_desk d s config first none h = (
  record s { desk = Some (config_view config) },
  rw (first, none) refl,
  record {
    settings = (h.settings.0, h.settings.1, h.settings.2, refl, h.settings.4);
    attributes = h.attributes;
    steps = h.steps;
  },
)

-- A draft without a greatest body that gets one holds the script with its line.
pub set_max_body : {A : Type 0} (d : Draft A) (s : Script) (greatest : ℕ) → no_items s.steps ≡ true
    → is_some s.max_body ≡ false → Holds d s
    → (t : Script) × (with_line s (max_body greatest) ≡ Some t)
    × Holds (record d { max_body = Some greatest }) t
unfolding with_line
set_max_body d s greatest first none h = (
  record s { max_body = Some greatest },
  rw (first, none) refl,
  record {
    settings = (h.settings.0, h.settings.1, h.settings.2, h.settings.3, refl);
    attributes = h.attributes;
    steps = h.steps;
  },
)

-- A draft with one more resource attribute holds the script with its `resource` line.
pub add_attribute : {A : Type 0} (d : Draft A) (after : AttributeList) (s : Script)
    (p : attributes.Attribute)
    → no_items s.steps ≡ true → SetsPair p d.resource after → Holds d s
    → (t : Script) × (with_line s (resource p) ≡ Some t) × Holds (record d { resource = after }) t
unfolding with_line
add_attribute d after s p first set h = (
  record s { resource = s.resource ++ p ∷ [] },
  rw first refl,
  record {
    settings = h.settings;
    attributes = (
      set.limits ∙ h.attributes.0,
      rw h.attributes.0 at (set.value s.resource (rw h.attributes.0 h.attributes.1)),
      h.attributes.2,
    );
    steps = h.steps;
  },
)

-- Drafts of scopes that show the same as scopes are as many as these.
pub same_count : {A : Type 0} (ds : List (ScopeDraft A)) (xs : List spans.Scope)
    → map scope_draft_view ds ≡ map scope_draft xs → length ds ≡ length xs
same_count ds xs e = sym (length-map ds scope_draft_view) ∙ ap length e ∙ length-map xs scope_draft

-- A draft with one more scope, without attributes, holds the script with its `scope` line.
pub add_scope : {A : Type 0} (d : Draft A) (after : Vec (ScopeDraft A) A) (s : Script) (number : ℕ)
    (x : spans.Scope) (more : ScopeDraft A)
    → no_items s.steps ≡ true → number ≡ length d.scopes.items
    → scope_draft_view more ≡ scope_draft (with_attributes [] x)
    → after.items ≡ d.scopes.items ++ more ∷ [] → Holds d s
    → (t : Script) × (with_line s (scope number x) ≡ Some t) × Holds (record d { scopes = after }) t
unfolding with_line
add_scope d after s number x more first next is e h = (
  record s { scopes = s.scopes ++ with_attributes [] x ∷ [] },
  rw (
    first,
    eq-eqb number (length s.scopes) (next ∙ same_count d.scopes.items s.scopes h.attributes.2),
  ) refl,
  record {
    settings = h.settings;
    attributes = (
      h.attributes.0,
      h.attributes.1,
      ap (map scope_draft_view) e ∙ map_push scope_draft_view d.scopes.items more
          ∙ ap (λ y. map scope_draft_view d.scopes.items ++ y ∷ []) is
          ∙ ap (λ l. l ++ scope_draft (with_attributes [] x) ∷ []) h.attributes.2
          ∙ sym (map_push scope_draft s.scopes (with_attributes [] x)),
    );
    steps = h.steps;
  },
)

-- ---- an attribute of a scope

parts_same : {X : Type 0} (x y : X) (xs ys : List X) → (x ∷ xs) ≡ (y ∷ ys) → (x ≡ y) × (xs ≡ ys)
parts_same x y xs ys e = (cc, cc)

-- one more attribute on a scope
one_set : {A : Type 0} (c : ScopeDraft A) (x : spans.Scope) (after : AttributeList)
    (p : attributes.Attribute)
    → scope_draft_view c ≡ scope_draft x → SetsPair p c.attributes after
    → scope_draft_view (record c { attributes = after })
    ≡ scope_draft (with_attributes (x.attributes ++ p ∷ []) x)
one_set c x after p e set =
    let limits : c.attributes.limits ≡ all_kept = ap (λ y. y.1.limits) e in
    let kept : c.attributes.kept ≡ attributes.attributes all_kept x.attributes =
    ap (λ y. y.1.kept) e in
    let more : after.kept ≡ attributes.attributes all_kept (x.attributes ++ p ∷ []) =
    rw limits at (set.value x.attributes (rw limits kept)) in
    ap (λ y. (y.0, after)) e
    ∙ ap (λ l. (with_attributes [] x, record { limits = l; kept = after.kept }))
    (set.limits ∙ limits)
    ∙ ap (λ k. (with_attributes [] x, record { limits = all_kept; kept = k })) more

-- on that of this number
set_there : {A : Type 0} (ds : List (ScopeDraft A)) (xs : List spans.Scope) (n : ℕ)
    (c : ScopeDraft A) (after : AttributeList) (p : attributes.Attribute)
    → slice_get ds n ≡ Some c → map scope_draft_view ds ≡ map scope_draft xs
    → SetsPair p c.attributes after
    → map scope_draft_view (slice_set ds n (record c { attributes = after }))
    ≡ map scope_draft (set_on n p xs)
set_there [] xs n c after p found e set = cc
set_there (d ∷ ds) [] n c after p found e set = cc
set_there (d ∷ ds) (x ∷ xs) zero c after p found e set =
    let both =
    parts_same (scope_draft_view d) (scope_draft x) (map scope_draft_view ds)
    (map scope_draft xs) e in
    let it : d ≡ c = cc in
    ap (λ y. y ∷ map scope_draft_view ds)
    (one_set c x after p (ap scope_draft_view (sym it) ∙ both.0) set)
    ∙ ap (λ ys. scope_draft (with_attributes (x.attributes ++ p ∷ []) x) ∷ ys) both.1
set_there (d ∷ ds) (x ∷ xs) (suc n) c after p found e set =
    let both =
    parts_same (scope_draft_view d) (scope_draft x) (map scope_draft_view ds)
    (map scope_draft xs) e in
    ap (λ y. y ∷ map scope_draft_view (slice_set ds n (record c { attributes = after }))) both.0
    ∙ ap (λ ys. scope_draft x ∷ ys) (set_there ds xs n c after p found both.1 set)

-- A draft with one more attribute on a scope that is there holds the script with its line.
pub add_scope_attribute : {A : Type 0} (d : Draft A) (after : Vec (ScopeDraft A) A) (s : Script)
    (n : ℕ) (c : ScopeDraft A) (list : AttributeList) (p : attributes.Attribute)
    → no_items s.steps ≡ true → slice_get d.scopes.items n ≡ Some c → SetsPair p c.attributes list
    → after.items ≡ slice_set d.scopes.items n (record c { attributes = list }) → Holds d s
    → (t : Script) × (with_line s (scope_attribute n p) ≡ Some t)
    × Holds (record d { scopes = after }) t
unfolding with_line
add_scope_attribute d after s n c list p first found set e h =
    let within : n < length s.scopes =
    subst (λ k. n < k) (same_count d.scopes.items s.scopes h.attributes.2)
    (slice_get_within d.scopes.items n c found) in (
      record s { scopes = set_on n p s.scopes },
      rw (first, lt-ltb n (length s.scopes) within) refl,
      record {
        settings = h.settings;
        attributes = (
          h.attributes.0,
          h.attributes.1,
          ap (map scope_draft_view) e
              ∙ set_there d.scopes.items s.scopes n c list p found h.attributes.2 set,
        );
        steps = h.steps;
      },
    )

-- A draft with one more outcome holds the script with its `outcome` line.
pub add_outcome : {A : Type 0} (d : Draft A) (after : Vec Outcome A) (s : Script) (more : Outcome)
    → after.items ≡ d.outcomes.items ++ more ∷ [] → Holds d s
    → (t : Script) × (with_line s (outcome (outcome_view more)) ≡ Some t)
    × Holds (record d { outcomes = after }) t
unfolding with_line
add_outcome d after s more e h = (
  record s { outcomes = s.outcomes ++ outcome_view more ∷ [] },
  refl,
  record {
    settings = h.settings;
    attributes = h.attributes;
    steps = (
      ap (map outcome_view) e ∙ map_push outcome_view d.outcomes.items more
          ∙ ap (λ l. l ++ outcome_view more ∷ []) h.steps.0,
      h.steps.1,
    );
  },
)

-- A draft with one more step holds the script with the line of this step.
pub add_step : {A : Type 0} (d : Draft A) (after : Vec (CodeStep A) A) (s : Script)
    (more : CodeStep A)
    → after.items ≡ d.steps.items ++ more ∷ [] → Holds d s
    → (t : Script) × (with_line s (step (step_view more)) ≡ Some t)
    × Holds (record d { steps = after }) t
unfolding with_line
add_step d after s more e h = (
  record s { steps = s.steps ++ step_view more ∷ [] },
  refl,
  record {
    settings = h.settings;
    attributes = h.attributes;
    steps = (
      h.steps.0,
      ap (map step_view) e ∙ map_push step_view d.steps.items more
          ∙ ap (λ l. l ++ step_view more ∷ []) h.steps.1,
    );
  },
)
