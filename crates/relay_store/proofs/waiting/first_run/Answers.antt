use Rattle.std.proofs.Common.{◌≡◌, ◌∙◌, [], sym, ap, arith}
use Rattle.std.specs.Vec.Iter.{into_iter_items}
use Rattle.relay_store.proofs.Waits.{moves-one, run-more, run-begins, run-some, run-all}
use Rattle.relay_store.proofs.waiting.first_run.Goals as goal

pub loop-body-preserved : goal.loop-body-preserved
loop-body-preserved c =
    let i = c.loop-body.invariant in
    record {
      all =
          moves-one c.args.found.items c.loop-body.yielded _ (into_iter_items c.next.new.self)
          c.in-Some.body i.all c.in-Some.ensures.steps.0;
      run =
          rw (c.in_ok-push.ensures.items)
          (run-more c.first_number-first.result c.loop-body.yielded c.loop-body.bodies.items
          c.in-Some.body i.run
          (omega (
            arith,
            c.is_next.ensures.0 c.if-not-is_next.false,
            c.len.ensures,
            c.loop-body.bodies.ok.0,
          )));
    }
