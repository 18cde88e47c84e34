use Rattle.std.proofs.Common.{◌≡◌, [], ◌∷◌, ◌++◌, length, arith, ap}
use Rattle.std.proofs.lemmas.Grind.{common_steps}
use Rattle.std.proofs.lemmas.List.{append-nil}
use Rattle.span_ring.specs.Segments.{AreSpare}
use Rattle.span_ring.proofs.Lengths.{items_of_more, last_spare}
use Rattle.span_ring.proofs.segments.Segments.make_room.Goals as goal

-- the segment that takes its place has no item
pub returns-then-len-batch-clause-items : goal.returns-then-len-batch-clause-items
returns-then-len-batch-clause-items g c =
    let all : AreSpare c.args.batch
    (c.take_last-next.new.self.items ++ c.take_last-next.result ∷ []) =
    rw (← c.take_last-next.ensures.items) c.requires.all_spare in
    let none : c.take_last-next.result.items ≡ [] = (last_spare c.args.batch _ _ all).1 in
    grind (arith, common_steps, append-nil, items_of_more, none)

pub returns-then-len-batch-clause-filling : goal.returns-then-len-batch-clause-filling
returns-then-len-batch-clause-filling g c =
    let all : AreSpare c.args.batch
    (c.take_last-next.new.self.items ++ c.take_last-next.result ∷ []) =
    rw (← c.take_last-next.ensures.items) c.requires.all_spare in
    let last = last_spare c.args.batch _ _ all in
    rw c.replace-filled.ensures.after (omega (arith, ap length last.1, c.requires.batch), last.2)
