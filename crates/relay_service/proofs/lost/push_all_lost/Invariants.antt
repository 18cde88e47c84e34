use Rattle.std.proofs.Common.{◌≡◌, ◌++◌, drop, map}
use Rattle.std.specs.List.{flat_map}
use Rattle.relay_queue.specs.Lost.{lost_view}
use Rattle.relay_service.specs.Lost.{lost_tokens}
use Rattle.relay_service.proofs.lost.push_all_lost.Given as goal

-- what is written, and then the spans that are left, are all
abbrev pub invariant-loop-lost : goal.invariant-loop-lost
invariant-loop-lost g l = record {
  written : l.out.tokens
      ++ flat_map lost_tokens (map lost_view (drop l.lost-index l.spans))
      ≡ l.fn.out.tokens ++ flat_map lost_tokens (map lost_view l.spans);
  before : l.out.before ≡ l.fn.out.before;
}
