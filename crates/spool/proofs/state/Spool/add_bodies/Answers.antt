use Rattle.std.proofs.Common.{arith}
use Rattle.spool.specs.Settled.{IsSame, LeftByAdding}
use Rattle.spool.proofs.Moments.{weaker}
use Rattle.spool.proofs.CallLaws.{added-none, added-leaves, put-grows, put-waiting, put-bound}
use Rattle.spool.proofs.state.Spool.add_bodies.Goals as goal

pub returns-in_err-make_open-clause-crash : goal.returns-in_err-make_open-clause-crash
returns-in_err-make_open-clause-crash g c = λ known bodies is.
    let disk = g.D.Device.files c.args.self.now.device in
    let limit = c.args.self.now.limit in
    weaker g.D.Device.moment g.D.Device.left_at c.args.self.now.device c.make_open.new.self.device
    (IsSame disk) (LeftByAdding disk bodies limit)
    (λ left same.
    added-none disk left bodies _ _ _ limit (c.requires.settled known).rises is same)
    (c.make_open.ensures.crash known)

pub write-requires-clause-grows : goal.write-requires-clause-grows
write-requires-clause-grows g c = λ known.
    let s = c.in_ok-make_open.ensures.settled known in
    put-grows _ _ (c.requires.settled known).rises (c.in_ok-make_open.ensures.same known)
    (s.grows c.in_ok-make_open.ensures.is_open) (c.requires.is known).0 _ _ _ _
    (c.requires.is known).1 _ s.done

pub returns-in_err-write-clause-crash : goal.returns-in_err-write-clause-crash
returns-in_err-write-clause-crash g c = λ known bodies is.
    let s = c.in_ok-make_open.ensures.settled known in
    added-leaves _ _ (c.requires.settled known).rises (c.in_ok-make_open.ensures.same known)
    (s.grows c.in_ok-make_open.ensures.is_open) bodies _ _ _ _ is g.D.Device.moment
    g.D.Device.left_at
    _ _ _ (c.make_open.ensures.crash known) (c.write.ensures.crash known)

pub returns-clause-crash : goal.returns-clause-crash
returns-clause-crash g c = λ known bodies is.
    let s = c.in_ok-make_open.ensures.settled known in
    added-leaves _ _ (c.requires.settled known).rises (c.in_ok-make_open.ensures.same known)
    (s.grows c.in_ok-make_open.ensures.is_open) bodies _ _ _ _ is g.D.Device.moment
    g.D.Device.left_at
    _ _ _ (c.make_open.ensures.crash known) (c.write.ensures.crash known)

pub returns-clause-waiting : goal.returns-clause-waiting
returns-clause-waiting g c = λ known bodies is.
    let s = c.in_ok-make_open.ensures.settled known in
    put-waiting _ _ (c.requires.settled known).rises (c.in_ok-make_open.ensures.same known)
    (s.grows c.in_ok-make_open.ensures.is_open) bodies _ _ _ _ is _ _
    (c.in_ok-write.ensures.written known) (c.requires.settled known).next

pub returns-clause-bound : goal.returns-clause-bound
returns-clause-bound g c = λ known.
    let s = c.in_ok-make_open.ensures.settled known in
    let disk = g.D.Device.files c.args.self.now.device in
    let now = g.D.Device.files c.make_open.new.self.device in
    let (bodies, is) = c.requires.is known in
    let within =
    put-bound disk now (c.requires.settled known).rises (c.in_ok-make_open.ensures.same known)
    (s.grows c.in_ok-make_open.ensures.is_open) bodies _ _ _ _ is _
    (c.in_ok-write.ensures.written known) in
    omega (arith, within, c.in_ok-write.ensures.limit, c.in_ok-make_open.ensures.limit)
