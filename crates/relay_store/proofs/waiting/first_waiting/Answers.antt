use Rattle.std.proofs.Common.{◌≡◌, ◌∙◌, [], refl, ap, arith, length}
use Rattle.relay_queue.specs.Bodies.{bodies_view}
use Rattle.spool.specs.Settled.{device_of, waiting_view}
use Rattle.relay_store.proofs.Waits.{all-waits, found-begins, nil-items, none-found}
use Rattle.relay_store.proofs.Waits.{none-waits}
use Rattle.relay_store.proofs.waiting.first_waiting.Goals as goal

pub loop-index-init : goal.loop-index-init
loop-index-init g c = record {
  settled = c.requires;
  same = λ known. refl;
  rest = λ known. all-waits c.args.from (g.D.Device.files (device_of c.args.spool.now));
}

pub returns-then-len-gt0-clause-found : goal.returns-then-len-gt0-clause-found
returns-then-len-gt0-clause-found g c = λ known.
    found-begins c.args.from (g.D.Device.files (device_of c.args.spool.now))
    (g.D.Device.files (device_of c.loop-index.spool)) c.loop-index.index
    (waiting_view c.in_ok-found.found.items)
    (c.loop-index.invariant.same known)
    (omega (arith, c.loop-index-test.true, c.file_count-index-end.ensures known (c.requires known)))
    (c.in_ok-found.ensures.bodies known) (c.loop-index.invariant.rest known)
    c.in_ok-run.run'.first (bodies_view c.in_ok-run.run'.bodies.items) c.in_ok-run.ensures.begin

pub returns-then-len-gt0-clause-some : goal.returns-then-len-gt0-clause-some
returns-then-len-gt0-clause-some g c =
    c.in_ok-run.ensures.some
    (λ e. omega (arith, ap length e, c.len.ensures, c.if-len-gt0.true, c.in_ok-found.found.ok.0))

pub loop-index-preserved : goal.loop-index-preserved
loop-index-preserved g c =
    let none : c.in_ok-found.found.items ≡ [] =
    nil-items c.in_ok-found.found.items
    (omega (arith, c.len.ensures, c.if-len-gt0.false, c.in_ok-found.found.ok.0)) in
    record {
      settled = c.in_ok-found.ensures.settled;
      same = λ known. c.in_ok-found.ensures.same known ∙ c.loop-index.invariant.same known;
      rest = λ known.
          none-found c.args.from (g.D.Device.files (device_of c.args.spool.now))
          (g.D.Device.files (device_of c.loop-index.spool)) c.loop-index.index
          (waiting_view c.in_ok-found.found.items)
          (c.loop-index.invariant.same known)
          (omega (
            arith,
            c.loop-index-test.true,
            c.file_count-index-end.ensures known (c.requires known),
          ))
          (c.in_ok-found.ensures.bodies known) (c.loop-index.invariant.rest known)
          (ap (λ bodies. waiting_view bodies) none);
    }

pub returns-clause-none : goal.returns-clause-none
returns-clause-none g c = λ e known.
    c.loop-index.invariant.rest known
    ∙ none-waits c.args.from (g.D.Device.files (device_of c.args.spool.now)) c.loop-index.index
    (omega
    (arith, c.loop-index-test.false, c.file_count-index-end.ensures known (c.requires known)))
