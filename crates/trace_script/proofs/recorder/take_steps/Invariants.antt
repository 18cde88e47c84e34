use Rattle.std.proofs.Common.{◌≡◌, ◌+◌, ◌≤◌, ◌++◌, List, drop, length, map}
use Rattle.model_run.specs.History.{SpanStep, granted_steps}
use Rattle.trace_run.specs.Steps.{step_view}
use Rattle.trace_script.specs.Recorder.{Records, start_steps}
use Rattle.trace_script.proofs.recorder.take_steps.Given as goal

-- Some steps are taken, and the others are left, for whose starts there is room.
abbrev pub invariant-loop-step : goal.invariant-loop-step
invariant-loop-step g l =
    ((done : List SpanStep)
    × (done ++ granted_steps (map step_view (drop l.step-index l.steps))
    ≡ granted_steps (map step_view l.steps))
    × Records done l.initial.spans l.initial.pass l.spans l.pass)
    × (length l.spans.spans + start_steps (map step_view (drop l.step-index l.steps))
    ≤ l.spans.room)
