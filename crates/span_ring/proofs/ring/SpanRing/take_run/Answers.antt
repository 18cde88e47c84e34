use Rattle.std.proofs.Common.{◌≡◌, ◌∙◌, Bool, false, arith, ap, subst}
use Rattle.span_ring.specs.Segments.{AreSegments}
use Rattle.span_ring.proofs.Steps.{run_has_items, taken}
use Rattle.span_ring.proofs.ring.SpanRing.take_run.Goals as goal

-- the first segment with items is out
pub invariant_of-self : goal.invariant_of-self
invariant_of-self g c =
    let r = c.self.inside in let s = r.segments in
    let now = c.detach_front-segment.new.self in
    let run = c.detach_front-segment.result in
    let took = c.detach_front-segment.ensures in
    let in_ring : r.run_out ≡ false = ap (λ r. r.run_out) c.self.view_is ∙ c.requires in
    let are =
    subst
    (λ (out : Bool). AreSegments s.full.items s.filling s.spare.items r.len r.queue r.batch out)
    in_ring c.self.invariant.0 in
    let some =
    run_has_items r.queue r.batch s.full.items s.filling s.spare.items r.len false run are
    c.if-self-eq0.false took.front in
    rw c.len.ensures (
      taken r.queue r.batch s.full.items s.filling s.spare.items r.len now.full.items now.filling
          now.spare.items run
          are took.items some took.all_full took.filling took.all_spare took.one_fewer,
      omega arith,
      omega arith,
    )
