use denote.Exit.{no}
use denote.Param.{param, copied}
use denote.Param.Send.{param_send, arg_send}
use Rattle.batch_processor.proofs.Crosses as crosses
use Rattle.test_processor.proofs.batch.tasks.do_on_each.Goals as goal

pub for_each_mut-requires-send-T : goal.for_each_mut-requires-send-T
for_each_mut-requires-send-T g c κs within =
    param_send 1 _
    (arg_send _ no _
    (crosses.pass_send (param 0 g.row.J) g.J.Naming (copied 1 g.row.R) c.type_bounds.send-R))
