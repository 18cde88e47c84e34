use Rattle.std.proofs.Common.{◌≡◌, ◌++◌, drop}
use Rattle.std.specs.List.{flat_map}
use Rattle.otlp_json.specs.Seen.{seen}
use Rattle.view_json.specs.Values.{pair_seen}
use Rattle.view_json.proofs.value.push_attributes.Given as goal

-- what is written, and then the pairs that are left, are all
abbrev pub invariant-loop-key : goal.invariant-loop-key
invariant-loop-key g l = record {
  written : seen l.out.tokens ++ flat_map pair_seen (drop l.key-index l.pairs)
      ≡ seen l.initial.out.tokens ++ flat_map pair_seen l.pairs;
  before : l.out.before ≡ l.fn.out.before;
}
