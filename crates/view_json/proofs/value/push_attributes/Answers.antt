use Rattle.std.proofs.Common.{◌∙◌, ◌++◌, ◌∷◌, [], ap, codes}
use Rattle.json.specs.Token.{begin_array, end_array, key}
use Rattle.otlp_json.specs.Seen.{Other, seen}
use Rattle.view_json.specs.Values.{member_seen, pair_seen, pair_text}
use Rattle.otlp_json.proofs.Chains.{list_written, next_written}
use Rattle.view_json.proofs.value.push_attributes.Goals as goal

pub loop-key-preserved : goal.loop-key-preserved
loop-key-preserved g c = record {
  written =
      next_written pair_seen c.args.pairs.now c.loop-key.key-index c.loop-key-item.result
      (seen c.loop-key.out.tokens)
      (seen c.push_pair.new.out.tokens) _ c.loop-key-test.true c.loop-key-item.is
      c.loop-key.invariant.written
      (c.in_ok-push_pair.ensures.seen
      ∙ ap (λ l. seen c.loop-key.out.tokens ++ pair_text l (member_seen c.loop-key-item.result.1))
      c.deref.ensures);
  before = c.in_ok-push_pair.ensures.before ∙ c.loop-key.invariant.before;
}

pub returns-clause-seen : goal.returns-clause-seen
returns-clause-seen g c =
    list_written c.end_list.result pair_seen c.args.pairs.now c.loop-key.key-index
    (seen c.args.out.now.tokens) (seen c.begin_list.new.out.tokens) (seen c.loop-key.out.tokens)
    (seen c.end_list.new.out.tokens)
    (Other (key (codes "attributes")) ∷ Other begin_array ∷ []) (Other end_array ∷ [])
    c.in_ok-begin_list.ensures.seen c.loop-key.invariant.written c.loop-key-test.false
    c.end_list.ensures.seen
