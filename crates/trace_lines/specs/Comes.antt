-- What the plan of a trace's rows may come to.
use Rattle.std.specs.Prelude.{◌≡◌, ℕ, Bool, Option, Some, None, List, is_none}
use Rattle.std.specs.declared.sync.Arc.{Arc}
use Rattle.trace_tree.specs.declared.draw.Frame.{Frame}
use Rattle.trace_store.specs.declared.span.ViewSpan.{ViewSpan}
use Rattle.trace_lines.specs.Parts.{IsPartOf, left_of}
use Rattle.trace_lines.specs.Plans.{IsPlan}
use Rattle.trace_lines.specs.declared.line.Line.{Line}
use Rattle.trace_lines.specs.declared.planning.Planning.{Planning}
use Rattle.trace_lines.specs.declared.rows.TraceLines.{TraceLines}

-- whether all is planned
abbrev pub is_planned : {A : Type 0} → TraceLines A → Bool
is_planned rows = is_none rows.planning

-- any plan of the spans, if what is planned of them is right
abbrev pub ComesTo : {A : Type 0} → List (Arc (ViewSpan A) A) → Planning A → List Line → Frame
    → Type 0
ComesTo spans planning lines frame = IsPartOf spans planning → IsPlan spans lines frame

-- by how far it is planned: any plan of its spans, or exactly what it has
abbrev pub MayHaveBy : {A : Type 0} → TraceLines A → Option (Planning A) → List Line → Frame
    → Type 0
MayHaveBy rows (Some planning) lines frame = ComesTo rows.spans.items planning lines frame
MayHaveBy rows None lines frame = (lines ≡ rows.lines.items) × (frame ≡ rows.frame)

-- These lines and this time are what it may come to: while it is planned any plan of its spans, if
-- what is planned of them is right, and then exactly what it has.
abbrev pub MayHave : {A : Type 0} → TraceLines A → List Line → Frame → Type 0
MayHave rows lines frame = MayHaveBy rows rows.planning lines frame

-- by how far it is planned
abbrev pub steps_left_by : {A : Type 0} → List (Arc (ViewSpan A) A) → Option (Planning A) → ℕ × ℕ
steps_left_by spans (Some planning) = left_of spans planning
steps_left_by spans None = (0, 0)

-- what is left to be planned: how many stages come after this one, and how much is left in it
abbrev pub steps_left : {A : Type 0} → TraceLines A → ℕ × ℕ
steps_left rows = steps_left_by rows.spans.items rows.planning
