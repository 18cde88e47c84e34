use Rattle.std.proofs.Common.{String}
use Rattle.std.specs.Vec.Iter.{into_iter_items}
use Rattle.otlp_value.specs.declared.Value.{Value}
use Rattle.otlp_span.proofs.Setting.{moves-one, sets-next}
use Rattle.otlp_span.proofs.pairs.set_all.Goals as goal

pub loop-key-preserved : goal.loop-key-preserved
loop-key-preserved g c =
    let pair : String _ × Value _ = (c.in-Some.key, c.in-Some.value) in
    record {
      all =
          moves-one c.args.pairs.items c.loop-key.yielded _
          (into_iter_items c.next.new.self) pair c.loop-key.invariant.all c.in-Some.ensures.steps.0;
      set =
          sets-next c.loop-key.yielded pair c.args.list.now c.loop-key.list c.set.new.self
          c.loop-key.invariant.set c.in_ok-set.ensures.ok;
    }
