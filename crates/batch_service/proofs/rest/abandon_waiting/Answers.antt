use Rattle.std.proofs.Common.{ap, subst, sym}
use Rattle.std.specs.Prelude.{is_none}
use Rattle.model_desk.specs.Desks.{Desk, accepted_count}
use Rattle.batch_desk.specs.Batch.{BatchView}
use Rattle.batch_service.specs.Rest.{AbandonsWaiting}
use Rattle.batch_service.proofs.GivenUp.{fewer_wait, next_keeps, none_due, shut_keeps, some_all}
use Rattle.batch_service.proofs.GivenUp.{some_next, some_none, some_wait}
use Rattle.batch_service.proofs.rest.abandon_waiting.Goals as goal

pub loop-batch-init : goal.loop-batch-init
loop-batch-init c =
    let old = c.args.desk.now in let shut = c.shutdown.new.self in let asked = accepted_count old in
    let is = c.shutdown.ensures.desk in
    let keeps = shut_keeps old shut asked c.requires.none_out is c.requires.room in
    (some_none old shut asked c.requires.none_out is, keeps.0, keeps.1, keeps.2)

pub loop-batch-preserved : goal.loop-batch-preserved
loop-batch-preserved c =
    let desk = c.loop-batch.desk in
    let taken = c.take.new.self in
    let new = c.drop_batch.new.self in
    let more = c.in-Some.batch.spans in
    let i = c.loop-batch.invariant in
    let took = c.in-Some.ensures in
    let gone = c.drop_batch.ensures.desk in
    let keeps = next_keeps 0 more desk taken new took.desk gone i.1 i.3 in (
      some_next 0 more c.args.desk.now desk taken new i.0
          (ap (λ (b : BatchView). b.spans) took.batch) took.desk gone,
      keeps.0,
      keeps.1,
      keeps.2,
    )

pub loop-batch-smaller : goal.loop-batch-smaller
loop-batch-smaller c =
    let desk = c.loop-batch.desk in
    let took = c.in-Some.ensures in
    fewer_wait 0 c.in-Some.batch.spans desk c.take.new.self c.drop_batch.new.self took.desk
    c.drop_batch.ensures.desk c.loop-batch.invariant.3
    (some_wait desk 0 (is_none desk.out) took.some)

pub returns : goal.returns
returns c =
    let old = c.args.desk.now in let desk = c.loop-batch.desk in
    let i = c.loop-batch.invariant in let none = c.in_default.ensures in
    subst (λ (d : Desk). AbandonsWaiting old d) (sym none.unchanged)
    (some_all old desk i.0 (none_due desk 0 i.1 i.2 none.some))
