use Rattle.std.proofs.Common.{◌≡◌, ◌∙◌, Bool, true, arith, ap, sym, subst, rules}
use Rattle.span_ring.specs.Segments.{AreSegments}
use Rattle.span_ring.proofs.Steps.{given_back}
use Rattle.span_ring.proofs.ring.SpanRing.give_back.Goals as goal

-- the run's segment is spare again
pub invariant_of-self : goal.invariant_of-self
invariant_of-self g c =
    let r = c.self.inside in let s = r.segments in let back = c.into_spare.result in
    let out : r.run_out ≡ true = ap (λ r. r.run_out) c.self.view_is ∙ c.requires.out in
    let are =
    subst
    (λ (out : Bool). AreSegments s.full.items s.filling s.spare.items r.len r.queue r.batch out) out
    c.self.invariant.0 in
    let room : back.room ≡ r.batch =
    ap (λ s. s.room) c.into_spare.ensures ∙ c.requires.room
    ∙ sym (ap (λ r. r.batch) c.self.view_is) in
    let in_full = c.self.invariant.1 in let in_spare = c.self.invariant.2 in
    rw c.push_reserved.ensures.items (
      given_back r.queue r.batch s.full.items s.filling s.spare.items r.len back are
          (ap (λ s. s.items) c.into_spare.ensures) room,
      search (rules, arith),
      search (rules, arith),
    )
