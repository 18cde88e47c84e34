use Rattle.std.proofs.Common.{string_bytes}
use Rattle.view_pages.specs.Panels.{link_html}
use Rattle.view_pages.proofs.Each.{each_more}
use Rattle.view_pages.proofs.panel.push_each_link.Goals as goal

pub loop-link-preserved : goal.loop-link-preserved
loop-link-preserved g c =
    each_more link_html c.args.links.now c.loop-link.link-index c.link-item.result
    (string_bytes c.args.out.now) (string_bytes c.loop-link.out) (string_bytes c.push_link.new.out)
    c.loop-link-test.true c.link-item.is c.loop-link.invariant c.in_ok-push_link.ensures
