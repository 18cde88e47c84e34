use Rattle.std.proofs.Common.{string_bytes}
use Rattle.view_pages.specs.Rows.{tick_html}
use Rattle.view_pages.proofs.Each.{each_more}
use Rattle.view_pages.proofs.row.push_ticks.Goals as goal

pub loop-event-preserved : goal.loop-event-preserved
loop-event-preserved g c =
    each_more
    (tick_html c.args.frame) c.args.events.now c.loop-event.event-index c.event-item.result
    (string_bytes c.args.out.now) (string_bytes c.loop-event.out) (string_bytes c.push_tick.new.out)
    c.loop-event-test.true c.event-item.is c.loop-event.invariant c.in_ok-push_tick.ensures
