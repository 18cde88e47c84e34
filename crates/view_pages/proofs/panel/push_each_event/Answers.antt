use Rattle.std.proofs.Common.{string_bytes}
use Rattle.view_pages.specs.Panels.{event_html}
use Rattle.view_pages.proofs.Each.{each_more}
use Rattle.view_pages.proofs.panel.push_each_event.Goals as goal

pub loop-event-preserved : goal.loop-event-preserved
loop-event-preserved g c =
    each_more
    (event_html c.args.start) c.args.events.now c.loop-event.event-index c.event-item.result
    (string_bytes c.args.out.now) (string_bytes c.loop-event.out)
    (string_bytes c.push_event.new.out)
    c.loop-event-test.true c.event-item.is c.loop-event.invariant c.in_ok-push_event.ensures
