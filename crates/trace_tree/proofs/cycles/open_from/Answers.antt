use Rattle.trace_tree.proofs.Opening.{opening_up, opening_round}
use Rattle.trace_tree.proofs.cycles.open_from.Goals as goal

pub returns-in_default : goal.returns-in_default
returns-in_default c =
    let up = c.in_default.ensures.up in
    opening_up c.args.parents.now c.args.tree.now c.args.marks.now c.walk.new.marks c.args.start
    c.requires.before up.0 up.1

pub returns : goal.returns
returns c =
    let first = c.first_of_cycle-first.ensures in
    opening_round c.args.parents.now c.args.tree.now c.args.marks.now c.walk.new.marks c.args.start
    c.requires.before c.in-Some.entry c.first_of_cycle-first.result
    c.in-Some.ensures.round.1 first.leads first.opens first.in_list c.first_of_cycle-first.new.marks
    first.marks
