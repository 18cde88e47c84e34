use Rattle.std.proofs.Common.{◌≡◌, ◌++◌, drop}
use Rattle.std.specs.List.{flat_map}
use Rattle.view_json.specs.Lists.{summary_tokens}
use Rattle.view_json.proofs.list.push_summaries.Given as goal

-- what is written, and then the traces that are left, are all
abbrev pub invariant-loop-summary : goal.invariant-loop-summary
invariant-loop-summary g l = record {
  written : l.out.tokens ++ flat_map summary_tokens (drop l.summary-index l.summaries)
      ≡ l.fn.out.tokens ++ flat_map summary_tokens l.summaries;
  before : l.out.before ≡ l.fn.out.before;
}
