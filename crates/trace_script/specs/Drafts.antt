-- What the code has of the lines so far, and how it goes on.
use Rattle.std.specs.Prelude.{◌≡◌, ℕ, zero, suc, ◌==◌, nat_lt, Bool, true, false, not, ◌&&◌, List}
use Rattle.std.specs.Prelude.{[], ◌∷◌, ◌++◌, length, map, if◌then◌else◌, option_map, is_some}
use Rattle.std.specs.Prelude.{Option, Some, None, Result, Ok, Err, string_bytes}
use Rattle.model_span.specs.Attributes.{Attribute, AttributeList, attributes, attribute_list}
use Rattle.model_span.specs.Spans as spans
use Rattle.otlp_span.specs.Parts.{limits_view}
use Rattle.batch_desk.specs.Views.{config_view}
use Rattle.retry_core.specs.Retries.{outcome_view}
use Rattle.trace_run.specs.Steps.{step_view}
use Rattle.text_words.specs.Words.{◌>>=◌}
use Rattle.trace_script.specs.Lines.{Line, words, sampler, limits, desk, max_body, resource, scope}
use Rattle.trace_script.specs.Lines.{scope_attribute, outcome, step, line_of}
use Rattle.trace_script.specs.Scripts.{Script, all_kept, with_attributes}
use Rattle.trace_script.specs.declared.draft.Draft.{Draft}
use Rattle.trace_script.specs.declared.scope.ScopeDraft.{ScopeDraft}
use Rattle.text_words.specs.declared.WordFault.{WordFault}
use Rattle.text_words.specs.declared.WordFault.TheVariants.{Bad, OutOfMemory}

-- a scope of a draft, without its attributes, and the list that these are set in
abbrev pub scope_draft_view : {A : Type 0} → ScopeDraft A → spans.Scope × AttributeList
scope_draft_view d = (
  record {
    name = string_bytes d.name;
    version = string_bytes d.version;
    attributes = [];
    schema = string_bytes d.schema_url;
  },
  d.attributes,
)

-- the same of a scope on which all of its attributes were set
abbrev pub scope_draft : spans.Scope → spans.Scope × AttributeList
scope_draft x = (with_attributes [] x, attribute_list all_kept x.attributes)

-- the scope with the attributes that are left
abbrev pub finished_scope : spans.Scope × AttributeList → spans.Scope
finished_scope (x, list) = with_attributes list.kept.items x

-- the words, the sampler, the limits, the sizes and the greatest body
abbrev pub HoldsSettings : {A : Type 0} → Draft A → Script → Type 0
HoldsSettings d s =
    (d.words.items ≡ s.words) × (d.sampler ≡ s.sampler)
    × (option_map limits_view d.limits ≡ s.limits) × (option_map config_view d.desk ≡ s.desk)
    × (d.max_body ≡ s.max_body)

-- the resource and the scopes
abbrev pub HoldsAttributes : {A : Type 0} → Draft A → Script → Type 0
HoldsAttributes d s =
    (d.resource.limits ≡ all_kept) × (d.resource.kept ≡ attributes all_kept s.resource)
    × (map scope_draft_view d.scopes.items ≡ map scope_draft s.scopes)

-- the outcomes and the steps
abbrev pub HoldsSteps : {A : Type 0} → Draft A → Script → Type 0
HoldsSteps d s =
    (map outcome_view d.outcomes.items ≡ s.outcomes) × (map step_view d.steps.items ≡ s.steps)

pub record Holds {A : Type 0} (d : Draft A) (s : Script) : Type 0 where
  pub settings : HoldsSettings d s
  pub attributes : HoldsAttributes d s
  pub steps : HoldsSteps d s

-- ---- how a draft goes on: `proofs/Together` proves that it becomes the script of all lines

-- A script without a line (profile).
abbrev pub no_script : Script
no_script = record {
  words = [];
  sampler = None;
  limits = None;
  desk = None;
  max_body = None;
  resource = [];
  scopes = [];
  outcomes = [];
  steps = [];
}

abbrev pub no_items : {A : Type 0} → List A → Bool
no_items [] = true
no_items (x ∷ xs) = false

-- whether a line may follow what the lines so far say
abbrev pub fits : Script → Line → Bool
fits s (words ws) = no_items s.steps
fits s (sampler name) = no_items s.steps && not (is_some s.sampler)
fits s (limits l) = no_items s.steps && not (is_some s.limits)
fits s (desk c) = no_items s.steps && not (is_some s.desk)
fits s (max_body n) = no_items s.steps && not (is_some s.max_body)
fits s (resource p) = no_items s.steps
fits s (scope number x) = no_items s.steps && number == length s.scopes
fits s (scope_attribute number p) = no_items s.steps && nat_lt number (length s.scopes)
fits s (outcome o) = true
fits s (step x) = true

-- the scopes, with one more attribute on that of this number
abbrev pub set_on : ℕ → Attribute → List spans.Scope → List spans.Scope
set_on n p [] = []
set_on zero p (x ∷ xs) = with_attributes (x.attributes ++ p ∷ []) x ∷ xs
set_on (suc n) p (x ∷ xs) = x ∷ set_on n p xs

-- what they say with one more line
abbrev pub extended_script : Script → Line → Script
extended_script s (words ws) = record s { words = s.words ++ ws }
extended_script s (sampler name) = record s { sampler = Some name }
extended_script s (limits l) = record s { limits = Some l }
extended_script s (desk c) = record s { desk = Some c }
extended_script s (max_body n) = record s { max_body = Some n }
extended_script s (resource p) = record s { resource = s.resource ++ p ∷ [] }
extended_script s (scope number x) = record s { scopes = s.scopes ++ with_attributes [] x ∷ [] }
extended_script s (scope_attribute number p) = record s { scopes = set_on number p s.scopes }
extended_script s (outcome o) = record s { outcomes = s.outcomes ++ o ∷ [] }
extended_script s (step x) = record s { steps = s.steps ++ x ∷ [] }

unfoldable pub with_line : Script → Line → Option Script
with_line s line = if fits s line then Some (extended_script s line) else None

-- the same of the bytes of a line
unfoldable pub line_read : Script → List ℕ → Option Script
line_read s [] = Some s
line_read s (b ∷ bs) = line_of (b ∷ bs) >>= λ line. with_line s line

-- the draft goes on as the script does, and is refused where the script has nothing to go on to
abbrev pub Follows : {A : Type 0} → (Script → Option Script) → Draft A → Draft A
    → Result (Unit {0}) WordFault → Type 0
Follows next old new (Ok u) =
    (s : Script) → Holds old s → (t : Script) × (next s ≡ Some t) × Holds new t
Follows next old new (Err Bad) = (s : Script) → Holds old s → next s ≡ None
Follows next old new (Err OutOfMemory) = Unit {0}
