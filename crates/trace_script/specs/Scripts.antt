-- What the lines of a script say together.
use Rattle.std.specs.Prelude.{ℕ, ◌+◌, ◌-◌, ◌^◌, ◌<◌, ◌≤◌, ◌==◌, nat_lt, Bool, true, false, not}
use Rattle.std.specs.Prelude.{◌&&◌, List, [], ◌∷◌, length, map, take, filter, filter_map, flat_map}
use Rattle.std.specs.Prelude.{slice_index_or, if◌then◌else◌, Option, Some, None, is_some, ok_or}
use Rattle.std.specs.Prelude.{Result}
use Rattle.std.specs.List.{slice_split, list_all, position_or_len, range_with_len}
use Rattle.model_span.specs.Attributes as attributes
use Rattle.model_span.specs.Spans as spans
use Rattle.model_desk.specs.Desks.{DeskConfig}
use Rattle.model_desk.specs.Retries.{Outcome}
use Rattle.model_run.specs.Steps.{Step}
use Rattle.text_words.specs.Words.{◌>>=◌, each_of}
use Rattle.trace_script.specs.Lines.{Line, words, sampler, limits, desk, max_body, resource, scope}
use Rattle.trace_script.specs.Lines.{scope_attribute, outcome, step, line_of}
use Rattle.trace_script.specs.declared.sampler.SamplerName.{SamplerName}

pub record Script : Type 0 where
  -- the words of the generator
  pub words : List ℕ
  -- the sampler, if one is named
  pub sampler : Option SamplerName
  -- the limits of spans, if they are set
  pub limits : Option spans.SpanLimits
  -- the sizes and the delay of the batch processor, if they are set
  pub desk : Option DeskConfig
  -- the greatest body in bytes, if it is set
  pub max_body : Option ℕ
  -- the attributes that are set on the resource, in order
  pub resource : List attributes.Attribute
  -- the scopes, each with the attributes that are set on it, in order
  pub scopes : List spans.Scope
  -- what comes of the attempts to send a batch, in order
  pub outcomes : List Outcome
  pub steps : List Step

-- a resource or a scope keeps the first 2^32 - 1 of its keys, and texts of any length (profile)
abbrev pub all_kept : attributes.Limits
all_kept = record { count = 2 ^ 32 - 1; length = None }

-- a scope on which these attributes are set
abbrev pub with_attributes : List attributes.Attribute → spans.Scope → spans.Scope
with_attributes pairs x = record x { attributes = pairs }

-- a scope with those that are left of the attributes that were set on it
abbrev pub kept_scope : spans.Scope → spans.Scope
kept_scope x = with_attributes (attributes.attributes all_kept x.attributes).items x

-- ---- the lines that together are a script

abbrev pub is_step : Line → Bool
is_step (step x) = true
is_step _ = false

-- Settings say what there is before the first step. (profile)
abbrev pub is_setting : Line → Bool
is_setting (outcome o) = false
is_setting (step x) = false
is_setting _ = true

abbrev pub words_in : Line → List ℕ
words_in (words ws) = ws
words_in _ = []

abbrev pub sampler_in : Line → Option SamplerName
sampler_in (sampler name) = Some name
sampler_in _ = None

abbrev pub limits_in : Line → Option spans.SpanLimits
limits_in (limits l) = Some l
limits_in _ = None

abbrev pub desk_in : Line → Option DeskConfig
desk_in (desk c) = Some c
desk_in _ = None

abbrev pub max_body_in : Line → Option ℕ
max_body_in (max_body n) = Some n
max_body_in _ = None

abbrev pub attribute_in : Line → Option attributes.Attribute
attribute_in (resource p) = Some p
attribute_in _ = None

abbrev pub scope_in : Line → Option (ℕ × spans.Scope)
scope_in (scope number x) = Some (number, x)
scope_in _ = None

-- the attribute that a line sets on the scope with this number
abbrev pub attribute_on : ℕ → Line → Option attributes.Attribute
attribute_on n (scope_attribute number p) = if number == n then Some p else None
attribute_on n _ = None

abbrev pub outcome_in : Line → Option Outcome
outcome_in (outcome o) = Some o
outcome_in _ = None

abbrev pub step_in : Line → Option Step
step_in (step x) = Some x
step_in _ = None

-- settings come before steps: none comes after the first step
abbrev pub settings_first : List Line → Bool
settings_first [] = true
settings_first (line ∷ lines) =
    if is_step line then list_all (λ l. not (is_setting l)) lines else settings_first lines

abbrev pub at_most_one : {A : Type 0} → List A → Bool
at_most_one [] = true
at_most_one (x ∷ []) = true
at_most_one _ = false

-- scopes are numbered in their order, the first of these with n
abbrev pub numbered_from : ℕ → List (ℕ × spans.Scope) → Bool
numbered_from n [] = true
numbered_from n ((number, x) ∷ scopes) = number == n && numbered_from (n + 1) scopes

-- Attributes are set on scopes that come before them. The lines come after this many scopes.
abbrev pub on_scopes_before : ℕ → List Line → Bool
on_scopes_before n [] = true
on_scopes_before n (scope number x ∷ lines) = on_scopes_before (n + 1) lines
on_scopes_before n (scope_attribute number p ∷ lines) =
    nat_lt number n && on_scopes_before n lines
on_scopes_before n (_ ∷ lines) = on_scopes_before n lines

-- Settings come before steps, the sampler, the limits, the desk and the greatest body are set once
-- at most, scopes are numbered from 0 in their order, and attributes are set on scopes that
-- come before them.
abbrev pub is_script : List Line → Bool
is_script lines =
    settings_first lines
    && (at_most_one (filter_map sampler_in lines)
    && (at_most_one (filter_map limits_in lines)
    && (at_most_one (filter_map desk_in lines)
    && (at_most_one (filter_map max_body_in lines)
    && (numbered_from 0 (filter_map scope_in lines)
    && on_scopes_before 0 lines)))))

abbrev pub first_of : {A : Type 0} → List A → Option A
first_of [] = None
first_of (x ∷ xs) = Some x

-- the scopes, each with all attributes that are set on it
abbrev pub scopes_of : List Line → List spans.Scope
scopes_of lines =
    map (λ p. with_attributes (filter_map (attribute_on p.0) lines) p.1) (filter_map scope_in lines)

-- what they say together
abbrev pub contents_of : List Line → Script
contents_of lines = record {
  words = flat_map words_in lines;
  sampler = first_of (filter_map sampler_in lines);
  limits = first_of (filter_map limits_in lines);
  desk = first_of (filter_map desk_in lines);
  max_body = first_of (filter_map max_body_in lines);
  resource = filter_map attribute_in lines;
  scopes = scopes_of lines;
  outcomes = filter_map outcome_in lines;
  steps = filter_map step_in lines;
}

-- ---- texts

-- the lines of a text: each ends with a line feed (10), and what follows the last one is one too
abbrev pub lines_of : List ℕ → List (List ℕ)
lines_of text = slice_split (λ b. b == 10) text

abbrev pub some_bytes : List ℕ → Bool
some_bytes [] = false
some_bytes (b ∷ bs) = true

abbrev pub script_if : List Line → Option Script
script_if lines = if is_script lines then Some (contents_of lines) else None

-- What the bytes of lines say, if each that isn't empty says something and together they are a
-- script. Empty lines say nothing.
unfoldable pub script_of : List (List ℕ) → Option Script
script_of lines = each_of line_of (filter some_bytes lines) >>= script_if

-- the number of the first bad line: the least n for which the first n lines are no script
abbrev pub first_bad_line : List (List ℕ) → ℕ
first_bad_line lines =
    position_or_len (λ n. not (is_some (script_of (take n lines))))
    (range_with_len 0 (length lines + 1))

-- what a text says, or the number of its first bad line
abbrev pub script_read : List ℕ → Result Script ℕ
script_read text = ok_or (script_of (lines_of text)) (first_bad_line (lines_of text))

-- a line with the number n is there, and isn't empty
pub record IsLine (text : List ℕ) (n : ℕ) : Type 0 where
  pub from_one : 1 ≤ n
  pub there : n ≤ length (lines_of text)
  pub some : 0 < length (slice_index_or (lines_of text) (n - 1) [])
