-- What is known of the spans of a trace before its rows are written.
use Rattle.std.specs.Prelude.{◌≡◌, ℕ, ◌+◌, Bool, Option, None, if◌then◌else◌, option_map}
use Rattle.std.specs.Prelude.{List, map, string_bytes}
use Rattle.std.specs.Arc.{arc_value}
use Rattle.std.specs.Borrow.{Bor}
use Rattle.std.specs.BTreeMap.{btree_map_len}
use Rattle.std.specs.declared.sync.Arc.{Arc}
use Rattle.trace_tree.specs.Steps.{AreArranged}
use Rattle.trace_tree.specs.declared.draw.Frame.{Frame}
use Rattle.trace_tree.specs.declared.span.Row.{Row}
use Rattle.trace_tree.specs.declared.span.TreeSpan.{TreeSpan}
use Rattle.trace_tree.specs.declared.steps.Kin.{Kin}
use Rattle.trace_store.specs.Facts.{is_error, names_none}
use Rattle.trace_store.specs.declared.span.ViewSpan.{ViewSpan}
use Rattle.trace_lines.specs.Keys.{value_at}
use Rattle.trace_lines.specs.Lines.{line_for}
use Rattle.trace_lines.specs.Repeats.{AreUses}
use Rattle.trace_lines.specs.Services.{AreServices, services_of}
use Rattle.trace_lines.specs.Times.{frame_of}
use Rattle.trace_lines.specs.declared.gathered.Gathered.{Gathered}
use Rattle.trace_lines.specs.declared.line.Line.{Line}
use Rattle.trace_lines.specs.declared.repeat.Use.{Use}

-- the spans that these own together with others
abbrev pub values : {A : Type 0} → List (Arc (ViewSpan A) A) → List (ViewSpan A)
values spans = map arc_value spans

-- bytes that are lent; where they are says nothing
abbrev pub lent_bytes : List ℕ → Bor (List ℕ)
lent_bytes bytes = record { ref_ptr = (0, 0); now = bytes }

-- a span as the tree has it
abbrev pub tree_span : {A : Type 0} → ViewSpan A → TreeSpan
tree_span s = record {
  span_id = lent_bytes s.span.span_id.items;
  parent_span_id = lent_bytes s.span.parent_span_id.items;
  name = lent_bytes (string_bytes s.span.name);
  start_time_unix_nano = s.span.start_time_unix_nano;
  end_time_unix_nano = s.span.end_time_unix_nano;
  is_error = is_error s.span;
}

abbrev pub tree_of : {A : Type 0} → List (ViewSpan A) → List TreeSpan
tree_of spans = map tree_span spans

-- What the tree has of a span: its identifiers, its name, when it ran, and whether it is an error.
pub record TreeView : Type 0 where
  pub span_id : List ℕ
  pub parent_span_id : List ℕ
  pub name : List ℕ
  pub start_time_unix_nano : ℕ
  pub end_time_unix_nano : ℕ
  pub is_error : Bool

-- that of a span, wherever its bytes are
abbrev pub tree_view : TreeSpan → TreeView
tree_view s = record {
  span_id = s.span_id.now;
  parent_span_id = s.parent_span_id.now;
  name = s.name.now;
  start_time_unix_nano = s.start_time_unix_nano;
  end_time_unix_nano = s.end_time_unix_nano;
  is_error = s.is_error;
}

-- What is known of each row, and the time that the trace takes.
pub record IsPlan {A : Type 0} (spans : List (Arc (ViewSpan A) A)) (lines : List Line)
    (frame : Frame) : Type 0 where
  pub rows : List Row
  pub are_rows : AreArranged (tree_of (values spans)) rows
  pub lines_are : lines ≡ map (line_for (values spans)) rows
  pub frame_is : frame ≡ frame_of (values spans)

-- ---- while it is planned

-- what is gathered of these spans
pub record AreGathered {A : Type 0} (spans : List (ViewSpan A)) (known : Gathered A)
    : Type 0 where
  pub uses : AreUses spans known.uses
  pub services : AreServices (services_of spans) known.services
  pub frame : known.frame ≡ frame_of spans

-- what the place of a span goes by, by what is known of the others
abbrev pub parent_by : {A : Type 0} → Gathered A → List ℕ → Bool → Option ℕ
parent_by known id is_root =
    if is_root then None else option_map (λ (u : Use). u.first) (value_at known.uses id)

abbrev pub kin_by : {A : Type 0} → Gathered A → ViewSpan A → Kin
kin_by known s = record {
  parent = parent_by known s.span.parent_span_id.items (names_none s.span);
  names_none = names_none s.span;
  start_time_unix_nano = s.span.start_time_unix_nano;
}

-- how many keys it owns
abbrev pub key_count : {A : Type 0} → Gathered A → ℕ
key_count known = btree_map_len known.uses + btree_map_len known.services
