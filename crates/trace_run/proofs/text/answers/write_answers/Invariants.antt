use Rattle.std.proofs.Common.{map, string_bytes}
use Rattle.std.specs.Iterator.Adapters.{zip_first, zip_second}
use Rattle.std.specs.Slice.Iter.{iter_rest}
use Rattle.span_exporter.specs.Views.{handed_view}
use Rattle.trace_run.proofs.Texts.{Written}
use Rattle.trace_run.proofs.text.answers.write_answers.Given as goal

-- some steps have their lines, and the others are left
abbrev pub invariant-loop-step : goal.invariant-loop-step
invariant-loop-step g l =
    Written (map handed_view l.handed) l.fn.steps l.fn.answers (string_bytes l.fn.out)
    (string_bytes l.out) l.place (iter_rest (zip_first l.step-iterator))
    (iter_rest (zip_second l.step-iterator))
