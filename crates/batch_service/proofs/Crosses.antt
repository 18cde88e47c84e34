-- What a service's threads have may cross to them, where the runtime's value, the exporter, the
-- sink and what the threads give back may.
use denote.RattleType.{RattleType}
use denote.Param.Send.{IsSend, IsSync, sendable}
use denote.Param.SendFields.{declared_send, variants_send, as_row_send}
use Rattle.std.proofs.Crossing as heap
use Rattle.account_book.specs.declared.book.Naming as naming
use Rattle.batch_processor.proofs.Crosses.{pass_send, worker_send}
use Rattle.batch_processor.specs.contracts.worker.WorkEnd as WorkEnd
use Rattle.std.below.core.specs.contracts.atomic.AtomicU64 as AtomicU64
use Rattle.batch_service.specs.contracts.limit.Limit as Limit
use Rattle.batch_service.specs.contracts.worker.Worker as Worker
use Rattle.batch_service.specs.contracts.thread.Worked as Worked
use Rattle.batch_service.specs.contracts.threads.Lane as Lane

-- the limit, which a service and its worker's thread share
moment_send : IsSend AtomicU64.the_row
moment_send = search (sendable, heap.crosses) depth 60 fits 20000

moment_sync : IsSync AtomicU64.the_row
moment_sync = search (sendable, heap.crosses) depth 60 fits 20000

limit_send : IsSend Limit.the_row
limit_send =
    let a = heap.Arc-send AtomicU64.the_row moment_send moment_sync in
    search (sendable, declared_send, a) depth 60 fits 20000

end_send : IsSend WorkEnd.the_row
end_send = search (sendable, variants_send) depth 60 fits 20000

module _ (J : RattleType) (g : naming.Ghosts J.Denot) (R : RattleType) (r : IsSend R) where
  -- A thread's lane is `Send` where the runtime's value and what the thread gives back are.
  pub lane_send : (T : RattleType) → IsSend T → IsSend (Lane.the_row J R T g)
  lane_send T t =
      let p = pass_send J g R r in
      search (sendable, declared_send, variants_send, as_row_send, p, t) depth 60 fits 20000

  -- What the worker's thread has is `Send` where the runtime's value, exporter and sink are.
  pub thread_send : (E S : RattleType) → IsSend E → IsSend S → IsSend (Worker.the_row J R E S g)
  thread_send E S e s =
      let p = pass_send J g R r in
      let w = worker_send J g R r in
      search (sendable, declared_send, limit_send, p, w, e, s, r) depth 60 fits 20000

  -- What the worker's thread gives back is `Send` where runtime's value, exporter and sink are.
  pub worked_send : (E S : RattleType) → IsSend E → IsSend S → IsSend (Worked.the_row J R E S g)
  worked_send E S e s =
      let w = thread_send E S e s in
      search (sendable, declared_send, w, end_send) depth 60 fits 20000
