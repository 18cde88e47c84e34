use Rattle.std.proofs.Common.{◌≡◌}
use Rattle.trace_script.specs.Scripts.{Script}
use Rattle.trace_script.specs.Drafts.{Holds, no_script}
use Rattle.trace_script.proofs.Loop.{rest_read}
use Rattle.trace_script.proofs.parse.Script.parse.Given as goal

abbrev pub invariant-loop-index : goal.invariant-loop-index
invariant-loop-index g l =
    (s : Script) × Holds l.draft s
    × (rest_read s l.line-items l.index ≡ rest_read no_script l.line-items 0)
