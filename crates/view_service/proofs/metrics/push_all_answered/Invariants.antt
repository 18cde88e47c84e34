use Rattle.std.proofs.Common.{◌≡◌, ◌++◌, drop, string_bytes}
use Rattle.std.specs.List.{flat_map}
use Rattle.view_service.specs.Metrics.{answered_text}
use Rattle.view_service.proofs.metrics.push_all_answered.Given as goal

-- what is written, and then those that are left, are all
abbrev pub invariant-loop-one : goal.invariant-loop-one
invariant-loop-one g l =
    string_bytes l.out ++ flat_map answered_text (drop l.one-index l.answered)
    ≡ string_bytes l.fn.out ++ flat_map answered_text l.answered
