use Rattle.std.proofs.Common.{rules, ◌≡◌, ◌∙◌, ap, length, subst, sym}
use Rattle.std.specs.Prelude.{IsSome}
use denote.Exit.{no}
use denote.Param.{param, copied}
use denote.Param.Send.{param_send, arg_send}
use Rattle.batch_service.proofs.Crosses.{lane_send}
use Rattle.batch_service.proofs.Each.{each_of_places, written}
use Rattle.batch_service.proofs.threads.work_on_all.Goals as goal

-- a lane may go to the thread that works on it
pub for_each_mut-requires-send-T : goal.for_each_mut-requires-send-T
for_each_mut-requires-send-T g c κs within =
    let b = c.type_bounds in
    param_send 1 _
    (arg_send _ no _
    (lane_send (param 0 g.row.J) g.J.Naming (copied 1 g.row.R) b.send-R
    (param 3 g.row.W-Output) b.send-W-Output))

-- each lane's work is done
pub empty-requires-clause-done : goal.empty-requires-clause-done
empty-requires-clause-done g c =
    let s = c.for_each_mut.new.s in
    let items = c.fill.new.lanes.items in
    let same : length s ≡ length items = search rules in
    let lent : length s ≡ length c.as_mut_slice.result.now =
    same ∙ ap length (sym c.as_mut_slice.ensures.value) in
    let len : c.fill.new.lanes.len ≡ length items = search rules in
    rw (written items s c.fill.new.lanes.len same len)
    (each_of_places _ s
    (λ i d below. let change = (c.for_each_mut.ensures i d (rw (sym lent) below)).1 in
    subst (λ l. IsSome l.output) change.left change.call))
