use Rattle.std.proofs.Common.{refl}
use Rattle.spool.specs.Crashes.{Created}
use Rattle.spool.specs.Settled.{IsSame}
use Rattle.spool.proofs.Moments.{weaker}
use Rattle.spool.proofs.StateLaws.{below-next, same-made, same-created, settled-made}
use Rattle.spool.proofs.state.Spool.make_file.Goals as goal

pub create_synced-requires-clause-newest : goal.create_synced-requires-clause-newest
create_synced-requires-clause-newest g c = λ known.
    λ front last split.
    below-next (g.D.Device.files c.args.self.now.device) front last c.args.self.now.next
    (c.requires.settled known).next split

pub returns-in_err-create_synced-clause-crash : goal.returns-in_err-create_synced-clause-crash
returns-in_err-create_synced-clause-crash g c = λ known.
    weaker g.D.Device.moment g.D.Device.left_at c.args.self.now.device c.create_synced.new.device
    (Created c.args.self.now.next (g.D.Device.files c.args.self.now.device))
    (IsSame (g.D.Device.files c.args.self.now.device))
    (λ left was. same-created (g.D.Device.files c.args.self.now.device) left c.args.self.now.next
    (c.requires.settled known).next was)
    (c.create_synced.ensures.crash known)

pub returns-clause-settled : goal.returns-clause-settled
returns-clause-settled g c = λ known.
    settled-made g.D.Device.files g.D.Device.moment g.D.Device.left_at c.args.self.now _
    (c.requires.settled known)
    c.in_ok-retire.ensures refl refl refl refl (c.in_ok-create_synced.ensures.made known)
    (c.in_ok-create_synced.ensures.synced known)

pub returns-clause-same : goal.returns-clause-same
returns-clause-same g c = λ known.
    same-made (g.D.Device.files c.args.self.now.device) _ c.args.self.now.next
    (c.requires.settled known).next (c.in_ok-create_synced.ensures.made known)

pub returns-clause-crash : goal.returns-clause-crash
returns-clause-crash g c = λ known.
    weaker g.D.Device.moment g.D.Device.left_at c.args.self.now.device c.create_synced.new.device
    (Created c.args.self.now.next (g.D.Device.files c.args.self.now.device))
    (IsSame (g.D.Device.files c.args.self.now.device))
    (λ left was. same-created (g.D.Device.files c.args.self.now.device) left c.args.self.now.next
    (c.requires.settled known).next was)
    (c.create_synced.ensures.crash known)
