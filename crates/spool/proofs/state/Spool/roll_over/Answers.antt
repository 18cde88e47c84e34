use Rattle.std.proofs.Common.{ap, sym, ◌∙◌, ◌++◌, length, arith}
use Rattle.std.specs.Prelude.{Option}
use Rattle.std.specs.Option.{option_to_list}
use Rattle.spool.specs.Settled.{IsRolled, grown_by}
use Rattle.spool.specs.declared.state.Segment.{Segment}
use Rattle.spool.proofs.Moments.{started, weaker}
use Rattle.spool.proofs.PutLaws.{length-note}
use Rattle.spool.proofs.NoteLaws.{note-grows, note-newest, note-waiting, note-sized}
use Rattle.spool.proofs.RollLaws.{rolled-same, rolled-none, idle-note, none-numbered}
use Rattle.spool.proofs.RollLaws.{written-leaves, removed-leaves, alone-size}
use Rattle.spool.proofs.state.Spool.roll_over.Goals as goal

pub returns-in_err-bytes-clause-crash : goal.returns-in_err-bytes-clause-crash
returns-in_err-bytes-clause-crash g c = λ known.
    started g.D.Device.moment g.D.Device.left_at c.args.self.now.device
    (IsRolled (g.D.Device.files c.args.self.now.device))
    (λ left was. rolled-none (g.D.Device.files c.args.self.now.device) left
    ((c.requires.settled known).durable left was))

pub returns-in_err-make_file-clause-crash : goal.returns-in_err-make_file-clause-crash
returns-in_err-make_file-clause-crash g c = λ known.
    let disk = g.D.Device.files c.args.self.now.device in
    weaker g.D.Device.moment g.D.Device.left_at c.args.self.now.device c.make_file.new.self.device _
    (IsRolled disk) (rolled-same disk) (c.make_file.ensures.crash known)

pub write-requires-clause-grows : goal.write-requires-clause-grows
write-requires-clause-grows g c = λ known.
    let was = c.requires.settled known in
    let s = c.in_ok-make_file.ensures.settled known in
    let same = c.in_ok-make_file.ensures.same known in
    let note =
    idle-note (g.D.Device.files c.args.self.now.device) c.args.self.now.next c.in-Some.size
    c.deref.result.now was.next
    (omega (arith, c.requires.small)) c.in_ok-bytes.ensures.fits
    (c.deref.ensures.value ∙ c.in_ok-bytes.ensures.written)
    (omega (arith, c.in-Some.ensures.1, was.size)) in
    note-grows _ _ was.rises same (s.grows c.in_ok-make_file.ensures.is_open) _ _ _ note _
    (was.next ∙ sym same.next)

pub returns-in_err-write-clause-crash : goal.returns-in_err-write-clause-crash
returns-in_err-write-clause-crash g c = λ known.
    let was = c.requires.settled known in
    let s = c.in_ok-make_file.ensures.settled known in
    let note =
    idle-note (g.D.Device.files c.args.self.now.device) c.args.self.now.next c.in-Some.size
    c.deref.result.now was.next
    (omega (arith, c.requires.small)) c.in_ok-bytes.ensures.fits
    (c.deref.ensures.value ∙ c.in_ok-bytes.ensures.written)
    (omega (arith, c.in-Some.ensures.1, was.size)) in
    written-leaves _ _ was.rises (c.in_ok-make_file.ensures.same known)
    (s.grows c.in_ok-make_file.ensures.is_open) _ _ _ note (c.requires.idle known)
    g.D.Device.moment g.D.Device.left_at _ _ _ (c.make_file.ensures.crash known)
    (c.write.ensures.crash known)

pub remove_done-requires-clause-noted : goal.remove_done-requires-clause-noted
remove_done-requires-clause-noted g c = λ known.
    let was = c.requires.settled known in
    let s = c.in_ok-make_file.ensures.settled known in
    let note =
    idle-note (g.D.Device.files c.args.self.now.device) c.args.self.now.next c.in-Some.size
    c.deref.result.now was.next
    (omega (arith, c.requires.small)) c.in_ok-bytes.ensures.fits
    (c.deref.ensures.value ∙ c.in_ok-bytes.ensures.written)
    (omega (arith, c.in-Some.ensures.1, was.size)) in
    note-newest _ _ was.rises (c.in_ok-make_file.ensures.same known)
    (s.grows c.in_ok-make_file.ensures.is_open) _ _ _ note _ (c.in_ok-write.ensures.written known)

pub returns-in_err-remove_done-clause-crash : goal.returns-in_err-remove_done-clause-crash
returns-in_err-remove_done-clause-crash g c = λ known.
    let was = c.requires.settled known in
    let s = c.in_ok-make_file.ensures.settled known in
    let same = c.in_ok-make_file.ensures.same known in
    let can = s.grows c.in_ok-make_file.ensures.is_open in
    let idle = c.requires.idle known in
    let note =
    idle-note (g.D.Device.files c.args.self.now.device) c.args.self.now.next c.in-Some.size
    c.deref.result.now was.next
    (omega (arith, c.requires.small)) c.in_ok-bytes.ensures.fits
    (c.deref.ensures.value ∙ c.in_ok-bytes.ensures.written)
    (omega (arith, c.in-Some.ensures.1, was.size)) in
    removed-leaves g.D.Device.moment g.D.Device.left_at _ _ _ _ _
    (written-leaves _ _ was.rises same can _ _ _ note idle g.D.Device.moment g.D.Device.left_at
    _ _ _ (c.make_file.ensures.crash known) (c.write.ensures.crash known))
    (note-waiting _ _ was.rises same can _ _ _ note _ (c.in_ok-write.ensures.written known)
    ∙ none-numbered _ _ idle)
    (note-sized _ _ was.rises same can _ _ _ note _ (c.in_ok-write.ensures.written known))
    (c.in_ok-write.ensures.settled known).rises (c.remove_done.ensures.crash known)

pub returns-clause-crash : goal.returns-clause-crash
returns-clause-crash g c = λ known.
    let was = c.requires.settled known in
    let s = c.in_ok-make_file.ensures.settled known in
    let same = c.in_ok-make_file.ensures.same known in
    let can = s.grows c.in_ok-make_file.ensures.is_open in
    let idle = c.requires.idle known in
    let note =
    idle-note (g.D.Device.files c.args.self.now.device) c.args.self.now.next c.in-Some.size
    c.deref.result.now was.next
    (omega (arith, c.requires.small)) c.in_ok-bytes.ensures.fits
    (c.deref.ensures.value ∙ c.in_ok-bytes.ensures.written)
    (omega (arith, c.in-Some.ensures.1, was.size)) in
    removed-leaves g.D.Device.moment g.D.Device.left_at _ _ _ _ _
    (written-leaves _ _ was.rises same can _ _ _ note idle g.D.Device.moment g.D.Device.left_at
    _ _ _ (c.make_file.ensures.crash known) (c.write.ensures.crash known))
    (note-waiting _ _ was.rises same can _ _ _ note _ (c.in_ok-write.ensures.written known)
    ∙ none-numbered _ _ idle)
    (note-sized _ _ was.rises same can _ _ _ note _ (c.in_ok-write.ensures.written known))
    (c.in_ok-write.ensures.settled known).rises (c.remove_done.ensures.crash known)

pub returns-clause-idle : goal.returns-clause-idle
returns-clause-idle g c = λ known.
    let was = c.requires.settled known in
    let s = c.in_ok-make_file.ensures.settled known in
    let idle = c.requires.idle known in
    let note =
    idle-note (g.D.Device.files c.args.self.now.device) c.args.self.now.next c.in-Some.size
    c.deref.result.now was.next
    (omega (arith, c.requires.small)) c.in_ok-bytes.ensures.fits
    (c.deref.ensures.value ∙ c.in_ok-bytes.ensures.written)
    (omega (arith, c.in-Some.ensures.1, was.size)) in
    (c.in_ok-remove_done.ensures.same known).waits
    ∙ (note-waiting _ _ was.rises (c.in_ok-make_file.ensures.same known)
    (s.grows c.in_ok-make_file.ensures.is_open) _ _ _ note _ (c.in_ok-write.ensures.written known)
    ∙ (none-numbered _ _ idle ∙ idle))

pub returns-clause-size : goal.returns-clause-size
returns-clause-size g c = λ known.
    let last = c.in_ok-remove_done.ensures.settled known in
    let growing =
    c.remove_done.ensures.growing
    ∙ (c.in_ok-write.ensures.growing
    ∙ ap (grown_by c.args.self.now.next (length c.deref.result.now))
    c.in_ok-make_file.ensures.growing) in
    let sized =
    alone-size c.remove_done.new.self.older.items _
    (g.D.Device.files c.remove_done.new.self.device) c.remove_done.new.self.done
    (ap (λ (o : Option Segment). c.remove_done.new.self.older.items ++ option_to_list o)
    (sym growing)
    ∙ last.segments)
    c.in_ok-remove_done.ensures.left
    (omega (
      arith,
      last.next,
      c.in_ok-remove_done.ensures.next,
      c.in_ok-write.ensures.next,
      c.in_ok-remove_done.ensures.done,
      c.in_ok-write.ensures.done,
    )) in
    let len =
    ap length (c.deref.ensures.value ∙ c.in_ok-bytes.ensures.written)
    ∙ length-note c.args.self.now.next in
    omega (arith, sized, len)
