use denote.Exit.{no}
use denote.Param.{param, copied}
use denote.Param.Send.{IsSend, IsSync, param_send, arg_send, sendable, shr_send}
use denote.Param.SendFields.{variants_send, as_row_send}
use Rattle.std.proofs.Crossing as heap
use Rattle.std.below.core.specs.contracts.atomic.AtomicU64 as AtomicU64
use Rattle.account_book.proofs.Crosses.{five_send}
use Rattle.batch_processor.proofs.Crosses as crosses
use Rattle.test_processor.specs.contracts.batch.tasks.Task as Task
use Rattle.test_processor.proofs.batch.threads.carry.Goals as goal

-- How far the threads of a test are may be looked at from each of them.
stage_sync : IsSync AtomicU64.the_row
stage_sync = search (sendable, heap.crosses) depth 60 fits 20000

pub join-passes-requires-send-F : goal.join-passes-requires-send-F
join-passes-requires-send-F g c κs within =
    let r = c.type_bounds.send-R in
    let task : IsSend Task.the_row =
    search (sendable, variants_send, as_row_send) depth 60 fits 20000 in
    let p = crosses.pass_send (param 0 g.row.J) g.J.Naming (copied 1 g.row.R) r in
    param_send 1 _
    (arg_send _ no _
    (five_send _ _ _ _ _ _ r heap.send (heap.Vec-send _ p) task (shr_send _ _ _ stage_sync)))

pub join-passes-requires-send-A : goal.join-passes-requires-send-A
join-passes-requires-send-A g c κs within =
    let r = c.type_bounds.send-R in
    let p = crosses.pass_send (param 0 g.row.J) g.J.Naming (copied 1 g.row.R) r in
    param_send 3 _ (arg_send _ no _ (heap.Vec-send _ p))
