use Rattle.std.proofs.Common.{ap, ◌∙◌}
use Rattle.trace_tree.specs.Order.{lists_of}
use Rattle.trace_tree.proofs.Families.{step_child, step_top, grouped_all}
use Rattle.trace_tree.proofs.order.group_by_parent.Goals as goal
use Rattle.trace_tree.proofs.order.group_by_parent.Goals.{in-Some+in_ok-add_child-in-Some}
use Rattle.trace_tree.proofs.order.group_by_parent.Goals.{in-None+in_ok-push-in-None}

pub loop-index-preserved : goal.loop-index-preserved
loop-index-preserved g c =
    elim c.match-tree-index.branch [
      | in-Some+in_ok-add_child-in-Some w ↦
          step_child c.args.tree.now c.args.order.now c.loop-index.index-index
          (0, 0) c.loop-index.tops.items c.match-tree-index.tops.items
          (lists_of c.loop-index.children.items) (lists_of c.match-tree-index.children.items)
          c.loop-index.invariant c.loop-index-test.true w.in-Some.parent w.in-Some.is
          (c.requires.in_list.each _ _ w.in-Some.is)
          (ap (λ v. v.items) w.tops-is)
          (ap (λ v. lists_of v.items) w.children-is ∙ w.in_ok-add_child-in-Some.ensures)
      | in-None+in_ok-push-in-None w ↦
          step_top c.args.tree.now c.args.order.now c.loop-index.index-index
          (0, 0) c.loop-index.tops.items c.match-tree-index.tops.items
          (lists_of c.loop-index.children.items) (lists_of c.match-tree-index.children.items)
          c.loop-index.invariant c.loop-index-test.true w.in-None.is
          (ap (λ v. v.items) w.tops-is ∙ w.in_ok-push-in-None.ensures.items)
          (ap (λ v. lists_of v.items) w.children-is)
    ]

pub returns-clause-children : goal.returns-clause-children
returns-clause-children g c =
    grouped_all c.args.tree.now c.args.order.now c.loop-index.index-index c.loop-index.tops.items
    (lists_of c.loop-index.children.items) c.loop-index.invariant c.loop-index-test.false
