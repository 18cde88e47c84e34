use Rattle.std.proofs.Common.{arith}
use Rattle.spool.specs.Settled.{IsSame}
use Rattle.spool.specs.Spools.{LeftByNote}
use Rattle.spool.proofs.Moments.{weaker}
use Rattle.spool.proofs.NoteLaws.{left-by-same, note-leaves, note-grows, note-newest, note-waiting}
use Rattle.spool.proofs.NoteLaws.{note-sized}
use Rattle.spool.proofs.state.Spool.add_note.Goals as goal

pub returns-in_err-make_open-clause-crash : goal.returns-in_err-make_open-clause-crash
returns-in_err-make_open-clause-crash g c = λ known.
    let disk = g.D.Device.files c.args.self.now.device in
    weaker g.D.Device.moment g.D.Device.left_at c.args.self.now.device c.make_open.new.self.device
    (IsSame disk) (LeftByNote disk c.args.number)
    (λ left same. left-by-same disk left c.args.number (c.requires.settled known).rises same)
    (c.make_open.ensures.crash known)

pub write-requires-clause-grows : goal.write-requires-clause-grows
write-requires-clause-grows g c = λ known.
    let s = c.in_ok-make_open.ensures.settled known in
    note-grows _ _ (c.requires.settled known).rises (c.in_ok-make_open.ensures.same known)
    (s.grows c.in_ok-make_open.ensures.is_open) _ _ _ (c.requires.is known) _ s.next

pub returns-in_err-write-clause-crash : goal.returns-in_err-write-clause-crash
returns-in_err-write-clause-crash g c = λ known.
    let s = c.in_ok-make_open.ensures.settled known in
    note-leaves _ _ (c.requires.settled known).rises (c.in_ok-make_open.ensures.same known)
    (s.grows c.in_ok-make_open.ensures.is_open) _ _ _
    (c.requires.is known) (omega (arith, c.requires.later, (c.requires.settled known).done))
    g.D.Device.moment g.D.Device.left_at _ _ _ (c.make_open.ensures.crash known)
    (c.write.ensures.crash known)

pub returns-clause-crash : goal.returns-clause-crash
returns-clause-crash g c = λ known.
    let s = c.in_ok-make_open.ensures.settled known in
    note-leaves _ _ (c.requires.settled known).rises (c.in_ok-make_open.ensures.same known)
    (s.grows c.in_ok-make_open.ensures.is_open) _ _ _
    (c.requires.is known) (omega (arith, c.requires.later, (c.requires.settled known).done))
    g.D.Device.moment g.D.Device.left_at _ _ _ (c.make_open.ensures.crash known)
    (c.write.ensures.crash known)

pub returns-clause-noted : goal.returns-clause-noted
returns-clause-noted g c = λ known.
    let s = c.in_ok-make_open.ensures.settled known in
    note-newest _ _ (c.requires.settled known).rises (c.in_ok-make_open.ensures.same known)
    (s.grows c.in_ok-make_open.ensures.is_open) _ _ _ (c.requires.is known) _
    (c.in_ok-write.ensures.written known)

pub returns-clause-waiting : goal.returns-clause-waiting
returns-clause-waiting g c = λ known.
    let s = c.in_ok-make_open.ensures.settled known in
    note-waiting _ _ (c.requires.settled known).rises (c.in_ok-make_open.ensures.same known)
    (s.grows c.in_ok-make_open.ensures.is_open) _ _ _ (c.requires.is known) _
    (c.in_ok-write.ensures.written known)

pub returns-clause-sized : goal.returns-clause-sized
returns-clause-sized g c = λ known.
    let s = c.in_ok-make_open.ensures.settled known in
    note-sized _ _ (c.requires.settled known).rises (c.in_ok-make_open.ensures.same known)
    (s.grows c.in_ok-make_open.ensures.is_open) _ _ _ (c.requires.is known) _
    (c.in_ok-write.ensures.written known)
