use Rattle.std.proofs.Common.{refl}
use Rattle.spool.proofs.StateLaws.{settled-written}
use Rattle.spool.proofs.state.Spool.write.Goals as goal

pub returns-clause-settled : goal.returns-clause-settled
returns-clause-settled g c = λ known.
    settled-written g.D.Device.files g.D.Device.moment g.D.Device.left_at c.args.self.now _
    (c.requires.settled known)
    c.args.bytes.now (c.requires.grows known) c.requires.is_open c.ranges.size.fits refl
    c.grown_segment-self.ensures
    (c.in_ok-append_synced.ensures.written known) (c.in_ok-append_synced.ensures.synced known)
