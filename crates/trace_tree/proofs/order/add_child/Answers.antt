use Rattle.trace_tree.proofs.Families.{child_added}
use Rattle.trace_tree.proofs.order.add_child.Goals as goal

pub returns : goal.returns
returns g c =
    child_added c.args.children.now.items c.args.parent c.args.index c.index_mut.result.now
    c.push.new.self c.requires c.index_mut.ensures.value c.in_ok-push.ensures.items
