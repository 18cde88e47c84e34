use Rattle.std.proofs.Common.{◌≡◌, ◌++◌, drop, map}
use Rattle.view_json.specs.Lists.{trace_token}
use Rattle.view_json.proofs.list.push_traces.Given as goal

-- what is written, and then the traces that are left, are all
abbrev pub invariant-loop-trace : goal.invariant-loop-trace
invariant-loop-trace g l = record {
  written : l.out.tokens ++ map trace_token (drop l.trace-index l.traces)
      ≡ l.fn.out.tokens ++ map trace_token l.traces;
  before : l.out.before ≡ l.fn.out.before;
}
