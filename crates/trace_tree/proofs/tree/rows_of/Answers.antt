use Rattle.std.proofs.Common.{rules, ap, ◌∙◌, sym, subst, ◌<◌, ◌≡◌, length, reverse, arith}
use Rattle.std.proofs.lemmas.List.{nil_from_length}
use Rattle.trace_tree.specs.Order.{places_of, is_top, is_child}
use Rattle.trace_tree.proofs.Families.{child_family}
use Rattle.trace_tree.proofs.Partway.{IsPartway, order_within, family_within, partway_init}
use Rattle.trace_tree.proofs.Partway.{popped_in_list, popped_room, partway_step, partway_all}
use Rattle.trace_tree.proofs.tree.rows_of.Goals as goal

pub group_by_parent-requires-clause-order : goal.group_by_parent-requires-clause-order
group_by_parent-requires-clause-order g c =
    order_within (length c.args.tree.now) c.args.order.now c.requires.order

pub pile_up-requires : goal.pile_up-requires
pile_up-requires g c =
    family_within (length c.args.tree.now) (length c.args.places.now)
    (places_of c.args.order.now) c.deref.result.now (is_top c.args.tree.now)
    c.requires.order c.requires.places (c.deref.ensures.value ∙ c.in_ok-families.ensures.tops)

pub loop-row-init : goal.loop-row-init
loop-row-init g c = record {
  partway =
      partway_init c.args.tree.now c.args.places.now
      (places_of c.args.order.now) c.deref.result.now c.in_ok-rows.rows.items
      c.new-pile.result.items c.pile_up.new.pile.items
      c.in_ok-rows.ensures.items c.new-pile.ensures.items c.in_ok-pile_up.ensures
      (c.deref.ensures.value ∙ c.in_ok-families.ensures.tops);
  capacity = search rules;
}

pub push_reserved-requires : goal.push_reserved-requires
push_reserved-requires g c =
    let room =
    popped_room c.args.tree.now c.args.places.now
    (places_of c.args.order.now) c.loop-row.rows.items c.loop-row.pile.items c.pop.new.self.items
    c.in-Some.row
    (length c.args.tree.now) c.requires.order c.in-Some.ensures.items
    c.loop-row.invariant.partway in
    omega (arith, room, c.loop-row.invariant.capacity, c.requires.places, c.loop-row.rows.ok)

pub index-children-requires : goal.index-children-requires
index-children-requires g c =
    let within =
    popped_in_list c.args.tree.now c.args.places.now
    (places_of c.args.order.now) c.loop-row.rows.items c.loop-row.pile.items c.pop.new.self.items
    c.in-Some.row
    (length c.args.tree.now) c.requires.order c.in-Some.ensures.items
    c.loop-row.invariant.partway in
    omega (arith, within, c.in_ok-families.ensures.count, c.in_ok-families.families.children.ok)

pub pile_up-requires-in-Some : goal.pile_up-requires-in-Some
pile_up-requires-in-Some g c =
    let within =
    popped_in_list c.args.tree.now c.args.places.now
    (places_of c.args.order.now) c.loop-row.rows.items c.loop-row.pile.items c.pop.new.self.items
    c.in-Some.row
    (length c.args.tree.now) c.requires.order c.in-Some.ensures.items
    c.loop-row.invariant.partway in
    family_within (length c.args.tree.now) (length c.args.places.now)
    (places_of c.args.order.now) c.deref-in-Some.result.now
    (is_child c.args.tree.now c.in-Some.row.index)
    c.requires.order c.requires.places
    (c.deref-in-Some.ensures.value
    ∙ child_family c.args.tree.now
    (places_of c.args.order.now) c.in_ok-families.families.children.items c.in-Some.row.index
    c.index-children.result.now
    c.in_ok-families.ensures.children
    (subst (λ n. c.in-Some.row.index < n) (sym c.in_ok-families.ensures.count) within)
    c.index-children.ensures)

pub loop-row-preserved : goal.loop-row-preserved
loop-row-preserved g c =
    let within =
    popped_in_list c.args.tree.now c.args.places.now
    (places_of c.args.order.now) c.loop-row.rows.items c.loop-row.pile.items c.pop.new.self.items
    c.in-Some.row
    (length c.args.tree.now) c.requires.order c.in-Some.ensures.items
    c.loop-row.invariant.partway in
    record {
      partway =
          partway_step c.args.tree.now c.args.places.now
          (places_of c.args.order.now) c.loop-row.rows.items c.loop-row.pile.items
          c.pop.new.self.items c.in-Some.row
          (length c.args.tree.now) c.requires.order c.in-Some.ensures.items
          c.loop-row.invariant.partway
          c.push_reserved.new.self.items c.pile_up-in-Some.new.pile.items c.deref-in-Some.result.now
          c.push_reserved.ensures.items c.in_ok-pile_up-2.ensures
          (c.deref-in-Some.ensures.value
          ∙ child_family c.args.tree.now
          (places_of c.args.order.now) c.in_ok-families.families.children.items c.in-Some.row.index
          c.index-children.result.now
          c.in_ok-families.ensures.children
          (subst (λ n. c.in-Some.row.index < n) (sym c.in_ok-families.ensures.count) within)
          c.index-children.ensures);
      capacity = search rules;
    }

pub returns : goal.returns
returns g c =
    let none : length c.loop-row.pile.items ≡ 0 =
    omega (arith, c.in_default.ensures.cases.0, c.loop-row.pile.ok) in
    partway_all c.args.tree.now c.args.places.now (places_of c.args.order.now) c.loop-row.rows.items
    (length c.args.tree.now) c.requires.order
    (search rules) c.requires.in_list c.requires.ends
    (subst
    (IsPartway c.args.tree.now c.args.places.now (places_of c.args.order.now) c.loop-row.rows.items)
    (ap reverse (nil_from_length c.loop-row.pile.items none)) c.loop-row.invariant.partway)
    c.requires.places
