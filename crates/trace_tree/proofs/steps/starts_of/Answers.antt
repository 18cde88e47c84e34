use Rattle.std.proofs.Common.{rules, ap, ◌∙◌}
use Rattle.trace_tree.specs.Order.{places_of}
use Rattle.trace_tree.proofs.Starts.{places_next}
use Rattle.trace_tree.proofs.Stepping.{starts_step}
use Rattle.trace_tree.proofs.steps.starts_of.Goals as goal

pub loop-index-preserved : goal.loop-index-preserved
loop-index-preserved g c = record {
  places =
      ap places_of c.push_reserved.ensures.items
      ∙ places_next c.loop-index.starts.items c.loop-index.index _ c.loop-index.invariant.places;
  all =
      starts_step c.args.kins.now c.loop-index.index _ c.loop-index.starts.items
      c.push_reserved.new.self.items c.loop-index-test.true c.push_reserved.ensures.items
      c.loop-index.invariant.all;
  count = search rules;
  capacity = search rules;
}
