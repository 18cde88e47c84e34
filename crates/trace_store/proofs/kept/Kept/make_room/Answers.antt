use Rattle.std.proofs.Common.{◌∙◌, refl, inl}
use Rattle.trace_store.proofs.Evictions.{none_evicted, one_evicted}
use Rattle.trace_store.proofs.Rooms.{less_left, none_given, one_given}
use Rattle.trace_store.proofs.kept.Kept.make_room.Goals as goal

pub loop-is_done-init : goal.loop-is_done-init
loop-is_done-init g c = record {
  giving = none_given _ _ c.args.self.now.traces;
  named =
      none_evicted c.args.self.now c.has_given-is_done.ensures.bounded.0
      c.has_given-is_done.ensures.bounded.1;
  done = c.has_given-is_done.ensures.value;
  accounted = c.has_given-is_done.ensures.accounted;
  received = refl;
}

pub loop-is_done-preserved : goal.loop-is_done-preserved
loop-is_done-preserved g c =
    let inv = c.loop-is_done.invariant in
    let step = c.evict_oldest.ensures.oldest in
    record {
      giving =
          one_given _ _ c.args.self.now.traces c.byte_count-before.result c.loop-is_done.self.traces
          c.evict_oldest.new.self.traces step.0 c.byte_count-before.ensures inv.giving
          (λ w. let yes = inv.done.1 (inl w) in let no = c.loop-is_done-test.true in cc) step.1;
      named =
          one_evicted c.args.self.now.traces c.args.self.now c.loop-is_done.self
          c.evict_oldest.new.self step.0 inv.named step.1 step.3 step.4;
      done = c.has_given-is_done-in-loop-is_done.ensures.value;
      accounted = c.has_given-is_done-in-loop-is_done.ensures.accounted;
      received = c.evict_oldest.ensures.received ∙ inv.received;
    }

pub has_given-is_done-requires-in-loop-is_done : goal.has_given-is_done-requires-in-loop-is_done
has_given-is_done-requires-in-loop-is_done g c =
    let step = c.evict_oldest.ensures.oldest in
    less_left _ _ c.args.self.now.traces c.byte_count-before.result c.loop-is_done.self.traces
    c.evict_oldest.new.self.traces step.0 c.byte_count-before.ensures
    c.loop-is_done.invariant.giving step.1
