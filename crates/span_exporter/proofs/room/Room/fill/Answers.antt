use Rattle.std.proofs.Common.{◌<◌, length, ap, sym, subst, arith}
use Rattle.span_exporter.specs.Room.{room_for}
use Rattle.span_exporter.proofs.Rooms.{has_room, popped}
use Rattle.span_exporter.proofs.room.Room.fill.Goals as goal

pub unwrap-buffer-requires : goal.unwrap-buffer-requires
unwrap-buffer-requires g c =
    let r = c.self.inside in let len = length c.args.body.now in
    let room = subst (λ x. 0 < room_for x len) (sym c.self.view_is) c.requires in
    let there = has_room len r.size (length r.buffers.items) room in
    c.pop.ensures.variant.1 (omega (arith, there, r.buffers.ok))

pub unwrap-requires : goal.unwrap-requires
unwrap-requires g c =
    let r = c.self.inside in let len = length c.args.body.now in
    let room = subst (λ x. 0 < room_for x len) (sym c.self.view_is) c.requires in
    let there = has_room len r.size (length r.buffers.items) room in
    let buffer = c.unwrap-buffer.result in
    let is =
    popped r.size r.buffers.items c.pop.new.self.items c.pop.result buffer c.pop.ensures.items
    c.unwrap-buffer.ensures c.self.invariant in
    c.extend_from_slice.ensures.succeeds
    (omega (arith, there, is.1.room, buffer.ok, ap length is.1.empty))

pub invariant_of-self : goal.invariant_of-self
invariant_of-self g c =
    let r = c.self.inside in
    (popped r.size r.buffers.items c.pop.new.self.items c.pop.result c.unwrap-buffer.result
    c.pop.ensures.items c.unwrap-buffer.ensures c.self.invariant).0

pub returns-clause-body : goal.returns-clause-body
returns-clause-body g c =
    let r = c.self.inside in let buffer = c.unwrap-buffer.result in
    let is =
    popped r.size r.buffers.items c.pop.new.self.items c.pop.result buffer c.pop.ensures.items
    c.unwrap-buffer.ensures c.self.invariant in
    rw (c.extend_from_slice.ensures.items, c.unwrap.ensures, is.1.empty)
