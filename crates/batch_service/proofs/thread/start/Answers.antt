use denote.Exit.{no}
use denote.Param.{param, copied}
use denote.Param.Send.{param_send, arg_send}
use Rattle.account_book.proofs.Crosses.{three_send}
use Rattle.batch_service.proofs.Crosses.{thread_send, worked_send}
use Rattle.batch_service.proofs.thread.start.Goals as goal

-- what the thread's closure captures may cross: what the worker has, the clock and the generator
pub spawn_with-started-requires-send-F : goal.spawn_with-started-requires-send-F
spawn_with-started-requires-send-F g c κs within =
    let b = c.type_bounds in
    let w =
    thread_send (param 0 g.row.J) g.J.Naming (copied 1 g.row.R) b.send-R (param 2 g.row.E)
    (param 3 g.row.S) b.send-E b.send-S in
    param_send 2 _ (arg_send _ no _ (three_send _ _ _ _ w b.send-C b.send-G))

-- and so may what it gives back
pub spawn_with-started-requires-send-T : goal.spawn_with-started-requires-send-T
spawn_with-started-requires-send-T g c κs within =
    let b = c.type_bounds in
    param_send 3 _
    (arg_send _ no _
    (worked_send (param 0 g.row.J) g.J.Naming (copied 1 g.row.R) b.send-R (param 2 g.row.E)
    (param 3 g.row.S) b.send-E b.send-S))
