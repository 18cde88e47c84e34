use Rattle.law_export.proofs.Kept.{keys-are, at-most, none-empty, none-twice, all-set, in-order}
use Rattle.law_export.proofs.Kept.{left-out, keys-stay}
use Rattle.law_export.proofs.spans.keys_are_kept.Goals as goal

pub returns : goal.returns
returns c = record {
  first = keys-are;
  at_most = at-most;
  not_empty = none-empty;
  not_twice = none-twice;
  set = all-set;
  in_order = in-order;
  left_out = left-out;
  stay = keys-stay;
}
