use Rattle.std.proofs.Common.{◌≡◌, ◌+◌, ◌*◌, ◌++◌, drop}
use Rattle.std.specs.Prelude.{sum_by}
use Rattle.std.specs.List.{flat_map}
use Rattle.trace_store.specs.Sizes.{pair_bytes, value_bytes}
use Rattle.otlp_json.specs.Seen.{seen}
use Rattle.view_json.specs.Values.{pair_seen, value_seen}
use Rattle.view_json.proofs.value.+value.Given as goal

-- what is written, and then those that are left, are all
abbrev pub invariant-push_array-loop-value : goal.invariant-push_array-loop-value
invariant-push_array-loop-value g l = record {
  written : seen l.out.tokens ++ flat_map value_seen (drop l.value-index l.values)
      ≡ seen l.initial.out.tokens ++ flat_map value_seen l.values;
  before : l.out.before ≡ l.initial.out.before;
}

abbrev pub invariant-push_pairs-loop-key : goal.invariant-push_pairs-loop-key
invariant-push_pairs-loop-key g l = record {
  written : seen l.out.tokens ++ flat_map pair_seen (drop l.key-index l.pairs)
      ≡ seen l.initial.out.tokens ++ flat_map pair_seen l.pairs;
  before : l.out.before ≡ l.initial.out.before;
}

-- A value takes more than what is in it, and that no less than each part: a pair before its value,
-- and a value before its member.
abbrev pub decreases-push_member : goal.decreases-push_member
decreases-push_member g l = 3 * value_bytes l.value.now

abbrev pub decreases-push_value : goal.decreases-push_value
decreases-push_value g l = 3 * value_bytes l.value.now + 1

abbrev pub decreases-push_pair : goal.decreases-push_pair
decreases-push_pair g l = 3 * value_bytes l.value.now + 2

abbrev pub decreases-push_array : goal.decreases-push_array
decreases-push_array g l = 3 * sum_by value_bytes l.values.now + 2

abbrev pub decreases-push_pairs : goal.decreases-push_pairs
decreases-push_pairs g l = 3 * sum_by pair_bytes l.pairs.now + 2
