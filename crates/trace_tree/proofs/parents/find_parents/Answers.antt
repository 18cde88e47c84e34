use Rattle.std.proofs.Common.{◌∙◌, sym, subst, rules, get_or}
use Rattle.trace_tree.specs.Cycles.{AreInList}
use Rattle.trace_tree.proofs.Ids.{nobody, parents_more, parents_all, parents_in_list, parent_none}
use Rattle.trace_tree.proofs.Ids.{parent_some}
use Rattle.trace_tree.proofs.parents.find_parents.Goals as goal
use Rattle.trace_tree.proofs.parents.find_parents.Goals.{then-is_empty, else-is_empty}

pub loop-span-preserved : goal.loop-span-preserved
loop-span-preserved g c =
    let span = get_or c.args.spans.now c.loop-span.span-index nobody in
    record {
      found =
          parents_more c.args.spans.now c.loop-span.span-index nobody c.loop-span.parents.items
          c.push_reserved.new.self.items c.if-is_empty.parent
          c.loop-span-test.true c.loop-span.invariant.found c.push_reserved.ensures.items
          (elim c.if-is_empty.branch [
            | then-is_empty w ↦
                w.parent-is
                ∙ parent_none c.args.spans.now span (sym c.is_empty.ensures ∙ w.if-is_empty.true)
            | else-is_empty w ↦
                w.parent-is ∙ w.copied-parent.ensures ∙ w.get.ensures.value
                ∙ c.in_ok-indices.ensures span.parent_span_id
                ∙ parent_some c.args.spans.now span (sym c.is_empty.ensures ∙ w.if-is_empty.false)
          ]);
      size = search rules;
      capacity = search rules;
    }

pub returns-clause-value : goal.returns-clause-value
returns-clause-value g c =
    parents_all c.args.spans.now c.loop-span.span-index c.loop-span.parents.items
    c.loop-span.invariant.found c.loop-span-test.false

pub returns-clause-in_list : goal.returns-clause-in_list
returns-clause-in_list g c =
    let all =
    parents_all c.args.spans.now c.loop-span.span-index c.loop-span.parents.items
    c.loop-span.invariant.found c.loop-span-test.false in
    subst AreInList (sym all) (parents_in_list c.args.spans.now)
