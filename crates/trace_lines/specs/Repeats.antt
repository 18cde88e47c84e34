-- Spans of a list that have the same identifier.
use Rattle.std.specs.Prelude.{◌≡◌, ℕ, Bool, true, false, nat_lt, ◌==◌, Option, Some, None, List}
use Rattle.std.specs.Prelude.{option_map, count_by, position, Vec}
use Rattle.std.specs.BTreeMap.{BTreeMap}
use Rattle.std.specs.Str.{bytes_eq}
use Rattle.trace_store.specs.declared.span.ViewSpan.{ViewSpan}
use Rattle.trace_lines.specs.Keys.{value_at}
use Rattle.trace_lines.specs.declared.repeat.Mark.{Mark}
use Rattle.trace_lines.specs.declared.repeat.Use.{Use}

-- the span has this identifier
abbrev pub has_id : {A : Type 0} → List ℕ → ViewSpan A → Bool
has_id id s = bytes_eq s.span.span_id.items id

-- whether it is in this place
abbrev pub is_at : ℕ → Option ℕ → Bool
is_at place None = false
is_at place (Some k) = k == place

-- whether the span in this place is the first one of the list with this identifier
abbrev pub is_first : {A : Type 0} → List (ViewSpan A) → List ℕ → ℕ → Bool
is_first spans id place = is_at place (position (has_id id) spans)

-- whether more than one span of the list has this identifier
abbrev pub is_repeated : {A : Type 0} → List (ViewSpan A) → List ℕ → Bool
is_repeated spans id = nat_lt 1 (count_by (has_id id) spans)

-- what a row says of the identifier of its span
unfoldable pub mark_of : {A : Type 0} → List (ViewSpan A) → List ℕ → ℕ → Mark
mark_of spans id place = record {
  is_first = is_first spans id place;
  is_repeated = is_repeated spans id;
}

-- where an identifier is first, and whether it is repeated, if a span has it
unfoldable pub use_of : {A : Type 0} → List (ViewSpan A) → List ℕ → Option Use
use_of spans id = option_map
    (λ first. record { first = first; is_repeated = is_repeated spans id })
    (position (has_id id) spans)

-- the use of an identifier, with one more span that has it, in this place
abbrev pub next_use : Option Use → ℕ → Use
next_use None place = record { first = place; is_repeated = false }
next_use (Some used) place = record { first = used.first; is_repeated = true }

-- what a row says of an identifier with this use
abbrev pub mark_by : Option Use → ℕ → Mark
mark_by None place = record { is_first = false; is_repeated = false }
mark_by (Some used) place = record {
  is_first = used.first == place;
  is_repeated = used.is_repeated;
}

-- the use of each identifier
pub record AreUses {A : Type 0} (spans : List (ViewSpan A)) (uses : BTreeMap (Vec ℕ A) Use)
    : Type 0 where
  pub each : (id : List ℕ) → value_at uses id ≡ use_of spans id
