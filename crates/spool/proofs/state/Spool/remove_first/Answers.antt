use Rattle.std.proofs.Common.{◌≡◌, refl, ap, ◌∙◌, List, ◌-◌, get_or, inr}
use Rattle.std.specs.Prelude.{remove}
use Rattle.spool.specs.declared.state.Segment.{Segment}
use Rattle.spool.proofs.RemoveLaws.{removed-leaves, removal-leaves, removed-noted}
use Rattle.spool.proofs.RemoveLaws.{settled-removed}
use Rattle.spool.proofs.state.Spool.remove_first.Goals as goal

pub returns-in_err-remove_synced-clause-crash : goal.returns-in_err-remove_synced-clause-crash
returns-in_err-remove_synced-clause-crash g c = λ known.
    let (first, others, is, ended) = c.requires.first in
    removal-leaves g.D.Device.files g.D.Device.moment g.D.Device.left_at c.args.self.now
    (c.requires.settled known) first others is c.requires.is_open (c.requires.noted known) ended
    c.remove_synced.new.device (c.remove_synced.ensures.crash known)

pub returns-clause-crash : goal.returns-clause-crash
returns-clause-crash g c = λ known.
    let (first, others, is, ended) = c.requires.first in
    removal-leaves g.D.Device.files g.D.Device.moment g.D.Device.left_at c.args.self.now
    (c.requires.settled known) first others is c.requires.is_open (c.requires.noted known) ended
    c.remove_synced.new.device (c.remove_synced.ensures.crash known)

pub returns-clause-same : goal.returns-clause-same
returns-clause-same g c = λ known.
    let (first, others, is, ended) = c.requires.first in
    removed-leaves g.D.Device.files g.D.Device.moment g.D.Device.left_at c.args.self.now
    (c.requires.settled known) first others is c.requires.is_open (c.requires.noted known) ended _
    (inr (c.in_ok-remove_synced.ensures.removed known))

pub returns-clause-noted : goal.returns-clause-noted
returns-clause-noted g c = λ known.
    let (first, others, is, ended) = c.requires.first in
    removed-noted g.D.Device.files g.D.Device.moment g.D.Device.left_at c.args.self.now
    (c.requires.settled known) first others is c.requires.is_open (c.requires.noted known) ended _
    (c.in_ok-remove_synced.ensures.removed known)

pub returns-clause-settled : goal.returns-clause-settled
returns-clause-settled g c = λ known.
    let (first, others, is, ended) = c.requires.first in
    let value : c.remove-first.result ≡ first =
    c.remove-first.ensures.value ∙ ap (λ (l : List Segment). get_or l 0 c.remove-first.result) is in
    settled-removed g.D.Device.files g.D.Device.moment g.D.Device.left_at c.args.self.now
    (c.requires.settled known) first others is c.requires.is_open _ (c.requires.noted known) ended
    (c.remove-first.ensures.items ∙ ap (λ (l : List Segment). remove l 0) is) refl refl refl
    (c.saturating_sub-self.ensures ∙ ap (λ (x : Segment). c.args.self.now.size - x.len) value)
    (c.in_ok-remove_synced.ensures.removed known) (c.in_ok-remove_synced.ensures.synced known)
