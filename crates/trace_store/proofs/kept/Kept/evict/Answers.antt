use Rattle.trace_store.proofs.Evictions.{all_newest, none_evicted, one_evicted, one_older}
use Rattle.std.proofs.Common.{◌∙◌, refl}
use Rattle.trace_store.proofs.kept.Kept.evict.Goals as goal

pub loop-is_within-init : goal.loop-is_within-init
loop-is_within-init g c = record {
  newest = all_newest _ _ _ c.args.self.now.traces;
  named =
      none_evicted c.args.self.now c.is_within-is_within.ensures.bounded.0
      c.is_within-is_within.ensures.bounded.1;
  within = c.is_within-is_within.ensures.value;
  accounted = c.is_within-is_within.ensures.accounted;
  received = refl;
}

pub loop-is_within-preserved : goal.loop-is_within-preserved
loop-is_within-preserved g c =
    let inv = c.loop-is_within.invariant in
    let step = c.evict_oldest.ensures.oldest in
    record {
      newest =
          one_older _ _ _ c.args.self.now.traces c.loop-is_within.self.traces
          c.evict_oldest.new.self.traces step.0 inv.newest
          (λ w. let yes = inv.within.1 w in let no = c.loop-is_within-test.true in cc) step.1;
      named =
          one_evicted c.args.self.now.traces c.args.self.now c.loop-is_within.self
          c.evict_oldest.new.self step.0 inv.named step.1 step.3 step.4;
      within = c.is_within-is_within-in-loop-is_within.ensures.value;
      accounted = c.is_within-is_within-in-loop-is_within.ensures.accounted;
      received = c.evict_oldest.ensures.received ∙ inv.received;
    }
