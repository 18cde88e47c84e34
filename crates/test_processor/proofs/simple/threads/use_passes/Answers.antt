use denote.Exit.{no}
use denote.Param.{param, copied}
use denote.Param.Send.{IsSend, param_send, arg_send, sendable}
use denote.Param.SendFields.{declared_send, as_row_send}
use Rattle.std.proofs.Crossing as heap
use Rattle.simple_processor.proofs.Crosses as crosses
use Rattle.test_processor.specs.contracts.simple.threads.Waiting as Waiting
use Rattle.test_processor.specs.contracts.simple.threads.WaitingExporter.TheImpl as waiting
use Rattle.test_processor.proofs.simple.threads.use_passes.Goals as goal

waiting_send : IsSend Waiting.the_row
waiting_send = search (sendable, declared_send, as_row_send, heap.crosses) depth 60 fits 20000

pub for_each_mut-requires-send-T : goal.for_each_mut-requires-send-T
for_each_mut-requires-send-T g c κs within =
    let r = c.type_bounds.send-R in
    param_send 1 _
    (arg_send _ no _
    (crosses.pass_send (param 0 g.row.J) Waiting.the_row g.J.Naming waiting.ghosts waiting_send
    (copied 1 g.row.R) r))
