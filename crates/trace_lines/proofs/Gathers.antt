-- What is gathered of spans, and what their places go by.
use Rattle.std.proofs.Common.{◌≡◌, refl, sym, ap, ◌∙◌, ℕ, ◌+◌, ◌<◌, ◌≤◌, Bool, not, cond}
use Rattle.std.proofs.Common.{nat_lt, Option, Some, None, List, [], ◌∷◌, ◌++◌, length, map, take}
use Rattle.std.proofs.Common.{get_or, position, arith}
use Rattle.std.specs.Prelude.{option_map, slice_get}
use Rattle.std.specs.Arc.{arc_value}
use Rattle.std.specs.List.{position_or_len}
use Rattle.std.specs.declared.sync.Arc.{Arc}
use Rattle.std.proofs.lemmas.List.{get_or-map, length-map, length-take-le, take_all, take_more}
use Rattle.std.proofs.lemmas.List.Sums.{fold_push}
use Rattle.std.proofs.lemmas.Option.{slice_get-get_or, slice_get-map}
use Rattle.trace_tree.specs.Parents.{has_id as tree_has_id, names_none}
use Rattle.trace_tree.specs.Steps.{AreFirst, kin_of}
use Rattle.trace_tree.specs.declared.span.Row.{Row}
use Rattle.trace_tree.specs.declared.span.TreeSpan.{TreeSpan}
use Rattle.trace_tree.specs.declared.steps.Arranging.{Arranging}
use Rattle.trace_tree.specs.declared.steps.Kin.{Kin}
use Rattle.trace_store.specs.declared.span.ViewSpan.{ViewSpan}
use Rattle.trace_lines.specs.Keys.{value_at}
use Rattle.trace_lines.specs.Lines.{colour_for, line_for, mark_for}
use Rattle.trace_lines.specs.Plans.{AreGathered, kin_by, tree_of, tree_span, values}
use Rattle.trace_lines.specs.Times.{frame_of, frame_with, no_time}
use Rattle.trace_lines.specs.declared.gathered.Gathered.{Gathered}
use Rattle.trace_lines.specs.declared.line.Line.{Line}
use Rattle.trace_lines.specs.declared.repeat.Mark.{Mark}
use Rattle.trace_lines.specs.declared.repeat.Use.{Use}
use Rattle.trace_lines.proofs.Repeats.{first_of_use}

-- the time that spans take, with one span more
pub frame_more : {A : Type 0} (spans : List (ViewSpan A)) (x : ViewSpan A)
    → frame_of (spans ++ x ∷ []) ≡ frame_with (frame_of spans) x.span
frame_more spans x = fold_push (λ frame s. frame_with frame s.span) no_time spans x

module _ {A : Type 0} (spans : List (Arc (ViewSpan A) A)) where
  -- As many spans as there are owners have values.
  pub values_length : length (values spans) ≡ length spans
  values_length = length-map spans arc_value

  -- The tree has as many spans as there are owners.
  pub tree_length : length (tree_of (values spans)) ≡ length spans
  tree_length = length-map (values spans) tree_span ∙ values_length

  -- The first values, with the next one, are the first values with one more.
  pub values_more : (at : ℕ) (x : Arc (ViewSpan A) A) → at < length spans → x ≡ get_or spans at x
      → take (at + 1) (values spans) ≡ take at (values spans) ++ arc_value x ∷ []
  values_more at x within is =
      take_more (values spans) at (arc_value x) (omega (arith, within, values_length))
      ∙ ap (λ y. take at (values spans) ++ y ∷ [])
      (get_or-map arc_value spans at x (arc_value x) within ∙ ap arc_value (sym is))

  -- The first values are so many.
  pub values_before : (at : ℕ) → at ≤ length spans → length (take at (values spans)) ≡ at
  values_before at within =
      length-take-le at (values spans) (omega (arith, within, values_length))

  -- Past the end the first values are all.
  pub values_all : (at : ℕ) → length spans ≤ at → take at (values spans) ≡ values spans
  values_all at past = take_all at (values spans) (omega (arith, past, values_length))

  -- The span in a place of the tree is that of the owner in the place.
  pub tree_at : (at : ℕ) (x : Arc (ViewSpan A) A) → at < length spans → x ≡ get_or spans at x
      → slice_get (tree_of (values spans)) at ≡ Some (tree_span (arc_value x))
  tree_at at x within is =
      slice_get-map tree_span (values spans) at
      ∙ ap (option_map tree_span)
      (slice_get-map arc_value spans at
      ∙ ap (option_map arc_value)
      (slice_get-get_or spans at x within ∙ ap Some (sym is)))

-- ---- where the first span with an identifier is

first_mapped : {X Y : Type 0} (p : Y → Bool) (f : X → Y) (xs : List X)
    → position_or_len p (map f xs) ≡ position_or_len (λ x. p (f x)) xs
first_mapped p f [] = refl
first_mapped p f (x ∷ xs) = ap (λ n. cond (not (p (f x))) (1 + n) 0) (first_mapped p f xs)

position_mapped : {X Y : Type 0} (p : Y → Bool) (f : X → Y) (xs : List X)
    → position p (map f xs) ≡ position (λ x. p (f x)) xs
position_mapped p f xs =
    ap (λ n. cond (nat_lt n (length (map f xs))) (Some n) None) (first_mapped p f xs)
    ∙ ap (λ m. cond (nat_lt (position_or_len (λ x. p (f x)) xs) m)
    (Some (position_or_len (λ x. p (f x)) xs)) None)
    (length-map xs f)

-- What the place of a span goes by is that of the tree, where all spans are gathered.
pub kin_is : {A : Type 0} (spans : List (ViewSpan A)) (known : Gathered A) (x : ViewSpan A)
    → AreGathered spans known → kin_by known x ≡ kin_of (tree_of spans) (tree_span x)
kin_is spans known x h =
    let id = x.span.parent_span_id.items in
    let found : option_map (λ (u : Use). u.first) (value_at known.uses id)
    ≡ position (tree_has_id id) (tree_of spans) =
    ap (option_map (λ (u : Use). u.first)) (h.uses.each id)
    ∙ first_of_use spans id
    ∙ sym (position_mapped (tree_has_id id) tree_span spans) in
    ap (λ p. made (cond (names_none (tree_span x)) None p)) found
  where
    made : Option ℕ → Kin
    made parent = record {
      parent = parent;
      names_none = names_none (tree_span x);
      start_time_unix_nano = x.span.start_time_unix_nano;
    }

-- the line of a row with this mark and this colour
pub line_is : {A : Type 0} (spans : List (ViewSpan A)) (row : Row) (at : Option (ViewSpan A))
    (mark : Mark) (colour : ℕ)
    → slice_get spans row.index ≡ at
    → mark ≡ mark_for spans at row.index → colour ≡ colour_for spans at
    → ◌≡◌ {A = Line} (record { row = row; mark = mark; colour = colour }) (line_for spans row)
line_is spans row at mark colour found m k = rw (found, m, k) refl

-- past the end, the first spans are all
pub first_all : {A : Type 0} (spans : List TreeSpan) (at : ℕ) (kins : Arranging A)
    → length spans ≤ at → AreFirst spans at kins → AreFirst spans (length spans) kins
first_all spans at kins past h = record {
  kins =
      h.kins
      ∙ ap (map (kin_of spans))
      (take_all at spans past ∙ sym (take_all (length spans) spans (omega arith)));
}
