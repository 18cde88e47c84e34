use Rattle.std.proofs.Common.{◌+◌, ◌≤◌, add-one, arith}
use Rattle.model_body.specs.Desks.{body_size}
use Rattle.relay_store.proofs.Putting.{all-next, all-taken}
use Rattle.relay_store.proofs.keeping.are_within.Goals as goal

pub loop-body-preserved : goal.loop-body-preserved
loop-body-preserved c =
    all-next (λ body. body_size body.items ≤ c.args.config.memory_bytes) c.args.bodies.now
    c.loop-body.body-index (c.loop-body.body-index + 1) c.body-item.result
    (add-one c.loop-body.body-index) c.body-item.is c.loop-body-test.true
    c.loop-body.invariant
    (omega (arith, c.is_within.ensures.within c.if-not-is_within.false, c.len.ensures))

pub returns : goal.returns
returns c = λ _.
    all-taken (λ body. body_size body.items ≤ c.args.config.memory_bytes) c.args.bodies.now
    c.loop-body.body-index c.loop-body-test.false c.loop-body.invariant
