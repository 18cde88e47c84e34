use Rattle.std.proofs.Common.{◌≡◌, ◌≤◌, ◌+◌}
use Rattle.trace_lines.specs.Plans.{key_count}
use Rattle.trace_lines.proofs.gathered.Gathered.forget_some.Given as goal

-- the time stays, and each turn lets a key go
abbrev pub invariant-loop-turn : goal.invariant-loop-turn
invariant-loop-turn g l = record {
  frame : l.self.frame ≡ l.fn.self.frame;
  fewer : key_count l.self + l._turn ≤ key_count l.fn.self;
}
