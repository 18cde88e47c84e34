use Rattle.std.proofs.Common.{refl, subst, Some}
use Rattle.http_exporter.specs.declared.failure.Failure.TheVariants.{NoConnection}
use Rattle.http_exporter.specs.Kept.{GetsLink, Keeping}
use Rattle.http_exporter.proofs.FailureLemmas.{last_kept_fails}
use Rattle.http_exporter.proofs.KeptLemmas.{no_link, one_link, none_left}
use Rattle.http_exporter.proofs.kept.KeptExporter.attempt.Goals as goal

pub returns-in_default-clause-outcome : goal.returns-in_default-clause-outcome
returns-in_default-clause-outcome g c =
    no_link _ _ _ _ c.args.self.now c.link.new.self
    (record { exporter = c.self.inside.exporter; link = c.self.inside.link }) c.keep.new.self
    c.self.view_is
    (subst (λ r. GetsLink g.D.Dial.dials g.D.Link.KeptLink.renews c.args.self.now
    c.link.new.self.exporter.dial r)
    c.in_default.is c.link.ensures.gets)
    c.link.ensures.others c.keep.ensures.others
    (c.keep.ensures.last (Some NoConnection) (NoConnection, refl, refl))

pub returns-in_default-clause-failed : goal.returns-in_default-clause-failed
returns-in_default-clause-failed g c =
    let last = c.keep.ensures.last (Some NoConnection) (NoConnection, refl, refl) in
    λ _. rw last.2 refl

pub returns-then-not-lasts-clause-outcome : goal.returns-then-not-lasts-clause-outcome
returns-then-not-lasts-clause-outcome g c =
    let posted = c.exchange_kept-outcome.ensures in
    let seen : Keeping g.row.D.Denot g.row.D-Link.Denot =
    record { exporter = c.self.inside.exporter; link = c.self.inside.link } in
    one_link _ _ _ _ c.args.self.now c.link.new.self seen c.keep-2.new.self c.in-Some.link
    c.exchange_kept-outcome.new.link _
    posted.0 c.exchange_kept-outcome.result.2 c.self.inside.link c.self.view_is
    c.in-Some.ensures.gets c.link.ensures.others c.keep-2.ensures.others
    posted.1 (c.keep-2.ensures.last posted.0 posted.2)
    (none_left c.args.self.now c.link.new.self seen c.exchange_kept-outcome.result.2
    c.exchange_kept-outcome.new.link c.self.view_is c.link.ensures.others c.if-not-lasts.true)

pub returns-then-not-lasts-clause-failed : goal.returns-then-not-lasts-clause-failed
returns-then-not-lasts-clause-failed g c =
    let posted = c.exchange_kept-outcome.ensures in
    last_kept_fails _ _ _ _ _ _ _ posted.0 _ _ _ posted.1 (c.keep-2.ensures.last posted.0 posted.2)

pub returns-clause-outcome : goal.returns-clause-outcome
returns-clause-outcome g c =
    let posted = c.exchange_kept-outcome.ensures in
    let seen : Keeping g.row.D.Denot g.row.D-Link.Denot =
    record { exporter = c.self.inside.exporter; link = c.self.inside.link } in
    let spent = c.exchange_kept-outcome.new.link in
    one_link _ _ _ _ c.args.self.now c.link.new.self seen c.keep-2.new.self c.in-Some.link spent _
    posted.0 c.exchange_kept-outcome.result.2
    (Some spent) c.self.view_is c.in-Some.ensures.gets c.link.ensures.others c.keep-2.ensures.others
    posted.1 (c.keep-2.ensures.last posted.0 posted.2) (rw c.if-not-lasts.false refl)

pub returns-clause-failed : goal.returns-clause-failed
returns-clause-failed g c =
    let posted = c.exchange_kept-outcome.ensures in
    last_kept_fails _ _ _ _ _ _ _ posted.0 _ _ _ posted.1 (c.keep-2.ensures.last posted.0 posted.2)
