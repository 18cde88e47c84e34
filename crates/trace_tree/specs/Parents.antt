-- The parent of each span in a list.
use Rattle.std.specs.Prelude.{ℕ, Bool, Option, None, List, ◌==◌, if◌then◌else◌, length, map}
use Rattle.std.specs.Prelude.{position}
use Rattle.std.specs.List.{slice_index_or}
use Rattle.std.specs.Str.{bytes_eq}
use Rattle.trace_tree.specs.declared.span.TreeSpan.{TreeSpan}

-- the span has this identifier
abbrev pub has_id : List ℕ → TreeSpan → Bool
has_id id span = bytes_eq span.span_id.now id

-- the place of the first span with this identifier
abbrev pub place_of_id : List TreeSpan → List ℕ → Option ℕ
place_of_id spans id = position (has_id id) spans

-- it names no parent
abbrev pub names_none : TreeSpan → Bool
names_none span = length span.parent_span_id.now == 0

-- the place of the span's parent: there is none where it names none, or none has that identifier
abbrev pub parent_of : List TreeSpan → TreeSpan → Option ℕ
parent_of spans span =
    if names_none span then None else place_of_id spans span.parent_span_id.now

-- the parent of each span
unfoldable pub parents_of : List TreeSpan → List (Option ℕ)
parents_of spans = map (parent_of spans) spans

-- the parent of the span in this place, where these are the parents
abbrev pub parent_at : List (Option ℕ) → ℕ → Option ℕ
parent_at parents k = slice_index_or parents k None
