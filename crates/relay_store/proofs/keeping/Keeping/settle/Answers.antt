use Rattle.std.proofs.Common.{◌≡◌, ◌∙◌, ◌++◌, ap, arith, refl, subst}
use Rattle.std.proofs.lemmas.List.{length-map}
use Rattle.retry_core.specs.Retries.{next_view}
use Rattle.relay_queue.specs.Bodies.{bodies_view}
use Rattle.spool.specs.Spools.{numbered_from}
use Rattle.relay_store.specs.Fronts.{bodies_of, spool_waiting}
use Rattle.relay_store.specs.Kept.{Kept, remaining_in}
use Rattle.relay_store.proofs.Sound.{fits-ended, has-noted, remaining-settled, sound-ended}
use Rattle.relay_store.proofs.keeping.Keeping.settle.Goals as goal

pub first_after-first-requires : goal.first_after-first-requires
first_after-first-requires g c = λ is.
    let ended = c.settle-next.result.ended in
    omega (
      arith,
      fits-ended g.D.Device.is_known g.D.Device.files g.D.Device.moment g.D.Device.left_at
          c.self.inside (next_view c.settle-next.result.next) (bodies_view ended.items)
          c.settle-next.new.desk c.self.invariant c.settle-next.ensures.noted is,
      c.len-count.ensures,
      length-map ended.items (λ body. body.items),
      ended.ok.0,
    )

pub invariant_of-self : goal.invariant_of-self
invariant_of-self g c =
    let ended = c.settle-next.result.ended in
    sound-ended g.D.Device.is_known g.D.Device.files g.D.Device.moment g.D.Device.left_at
    c.self.inside _ (next_view c.settle-next.result.next) (bodies_view ended.items)
    c.self.invariant c.settle-next.ensures.noted
    (has-noted (next_view c.settle-next.result.next) (bodies_view ended.items)
    c.self.inside.desk c.settle-next.new.desk c.self.invariant.history
    c.settle-next.ensures.noted)
    (λ is.
    omega (
      arith,
      c.first_after-first.ensures.spooled is,
      c.len-count.ensures,
      length-map ended.items (λ body. body.items),
      ended.ok.0,
    ))
    refl refl refl refl

pub returns-clause-remaining : goal.returns-clause-remaining
returns-clause-remaining g c = λ known is not.
    let files = g.D.Device.files in
    let old = c.self.inside in
    let ended = bodies_view c.settle-next.result.ended.items in
    let was = ap (λ (k : Kept _). k.is_spooled) c.self.view_is ∙ is in
    subst (λ (k : Kept _). remaining_in files k
    ≡ ended ++ bodies_of (numbered_from c.first_after-first.result
    (spool_waiting files old.spool))) c.self.view_is
    (remaining-settled g.D.Device.is_known files g.D.Device.moment g.D.Device.left_at old
    (next_view c.settle-next.result.next) ended c.settle-next.new.desk c.first_after-first.result
    c.self.invariant c.settle-next.ensures.noted
    (omega (
      arith,
      c.first_after-first.ensures.spooled was,
      c.len-count.ensures,
      length-map c.settle-next.result.ended.items (λ body. body.items),
      c.settle-next.result.ended.ok.0,
    ))
    known was (ap (λ (k : Kept _). k.has_failed) c.self.view_is ∙ not))
