-- How far the rows of a trace are planned.
use Rattle.std.specs.Prelude.{◌≡◌, ℕ, ◌-◌, ◌<◌, ◌⊎◌, Result, Ok, Err, List, length, map, take}
use Rattle.std.specs.declared.sync.Arc.{Arc}
use Rattle.otlp_ids.specs.declared.OutOfMemory.{OutOfMemory}
use Rattle.trace_tree.specs.Steps.{AreArranged, AreFirst, AreOpen, AreOrdered}
use Rattle.trace_store.specs.declared.span.ViewSpan.{ViewSpan}
use Rattle.trace_lines.specs.Lines.{line_for}
use Rattle.trace_lines.specs.Plans.{AreGathered, IsPlan, key_count, tree_of, values}
use Rattle.trace_lines.specs.declared.planning.Planning.{Planning}
use Rattle.trace_lines.specs.declared.planning.Planning.TheVariants as stages
use Rattle.trace_lines.specs.declared.planning.Step.{Step}
use Rattle.trace_lines.specs.declared.planning.Step.TheVariants as steps

-- what is planned is right for these spans
abbrev pub IsPartOf : {A : Type 0} → List (Arc (ViewSpan A) A) → Planning A → Type 0
IsPartOf spans (stages.Gathers known at) = AreGathered (take at (values spans)) known
IsPartOf spans (stages.Relates known kins at) =
    AreGathered (values spans) known × AreFirst (tree_of (values spans)) at kins
IsPartOf spans (stages.Opens known kins) = AreGathered (values spans) known
    × AreFirst (tree_of (values spans)) (length (tree_of (values spans))) kins
IsPartOf spans (stages.Sorts known opened) =
    AreGathered (values spans) known × AreOpen (tree_of (values spans)) opened
IsPartOf spans (stages.Arranges known opened) =
    AreGathered (values spans) known × AreOrdered (tree_of (values spans)) opened
IsPartOf spans (stages.Marks known rows lines at) = AreGathered (values spans) known
    × AreArranged (tree_of (values spans)) rows.items
    × (lines.items ≡ map (line_for (values spans)) (take at rows.items))
IsPartOf spans (stages.Forgets known lines) = IsPlan spans lines.items known.frame

-- what a step leads to is right for them
abbrev pub IsStep : {A : Type 0} → List (Arc (ViewSpan A) A) → Step A → Type 0
IsStep spans (steps.More planning) = IsPartOf spans planning
IsStep spans (steps.Done lines frame) = IsPlan spans lines.items frame

-- a step that more is planned after
abbrev pub more_of : {A : Type 0} → Result (Planning A) OutOfMemory → Result (Step A) OutOfMemory
more_of (Ok planning) = Ok (steps.More planning)
more_of (Err refused) = Err refused

-- ---- what is left to be planned

-- how many stages come after this one, and how much is left in it
abbrev pub left_of : {A : Type 0} → List (Arc (ViewSpan A) A) → Planning A → ℕ × ℕ
left_of spans (stages.Gathers known at) = (7, length spans - at)
left_of spans (stages.Relates known kins at) = (6, length spans - at)
left_of spans (stages.Opens known kins) = (5, 0)
left_of spans (stages.Sorts known opened) = (4, 0)
left_of spans (stages.Arranges known opened) = (3, 0)
left_of spans (stages.Marks known rows lines at) = (2, length rows.items - at)
left_of spans (stages.Forgets known lines) = (1, key_count known)

abbrev pub left_in : {A : Type 0} → List (Arc (ViewSpan A) A) → Step A → ℕ × ℕ
left_in spans (steps.More planning) = left_of spans planning
left_in spans (steps.Done lines frame) = (0, 0)

-- fewer stages come after it, or as many, and less is left in it
abbrev pub IsBelow : ℕ × ℕ → ℕ × ℕ → Type 0
IsBelow a b = (a.0 < b.0) ⊎ ((a.0 ≡ b.0) × (a.1 < b.1))
