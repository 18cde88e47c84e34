use Rattle.std.proofs.Common.{◌∙◌, sym, ap, ℕ, min, arith}
use Rattle.spool.specs.Spools.{LeftByNote}
use Rattle.spool.proofs.Moments.{started, weaker}
use Rattle.spool.proofs.NoteLaws.{left-by-none, left-by-noted, noted-leaves, noted-before}
use Rattle.spool.proofs.NoteLaws.{same-numbered, note-room, note-reserved}
use Rattle.spool.proofs.state.Spool.note_delivered.Goals as goal

pub returns-then-noted-self-clause-waiting : goal.returns-then-noted-self-clause-waiting
returns-then-noted-self-clause-waiting g c = λ known.
    let was = c.requires known in
    noted-before (g.D.Device.files c.args.self.now.device) c.args.number
    (omega (arith, c.if-noted-self.true, c.min-noted.ensures, was.next, was.done))

pub returns-then-noted-self-clause-crash : goal.returns-then-noted-self-clause-crash
returns-then-noted-self-clause-crash g c = λ known.
    started g.D.Device.moment g.D.Device.left_at c.args.self.now.device
    (LeftByNote (g.D.Device.files c.args.self.now.device) c.args.number)
    (λ left was. left-by-none (g.D.Device.files c.args.self.now.device) left c.args.number
    (c.requires known).rises ((c.requires known).durable left was))

pub returns-in_err-bytes-clause-crash : goal.returns-in_err-bytes-clause-crash
returns-in_err-bytes-clause-crash g c = λ known.
    started g.D.Device.moment g.D.Device.left_at c.args.self.now.device
    (LeftByNote (g.D.Device.files c.args.self.now.device) c.args.number)
    (λ left was. left-by-none (g.D.Device.files c.args.self.now.device) left c.args.number
    (c.requires known).rises ((c.requires known).durable left was))

pub returns-in_err-add_note-clause-crash : goal.returns-in_err-add_note-clause-crash
returns-in_err-add_note-clause-crash g c = λ known.
    let was = c.requires known in
    let disk = g.D.Device.files c.args.self.now.device in
    weaker g.D.Device.moment g.D.Device.left_at c.args.self.now.device c.add_note.new.self.device
    (LeftByNote disk c.min-noted.result) (LeftByNote disk c.args.number)
    (λ left by. left-by-noted disk left c.args.number c.min-noted.result
    (c.min-noted.ensures ∙ ap (λ (n : ℕ). min c.args.number n) was.next) by)
    (c.add_note.ensures.crash known)

pub returns-in_err-remove_done-clause-crash : goal.returns-in_err-remove_done-clause-crash
returns-in_err-remove_done-clause-crash g c = λ known.
    let was = c.requires known in
    let disk = g.D.Device.files c.args.self.now.device in
    noted-leaves g.D.Device.moment g.D.Device.left_at c.args.self.now.device
    c.add_note.new.self.device c.remove_done.new.self.device disk
    (g.D.Device.files c.add_note.new.self.device) c.args.number c.min-noted.result
    (c.min-noted.ensures ∙ ap (λ (n : ℕ). min c.args.number n) was.next)
    (note-room disk _ _ _ (c.in_ok-bytes.ensures.is known)
    (omega (arith, c.if-noted-self.false, was.done))) (c.add_note.ensures.crash known)
    (c.in_ok-add_note.ensures.waiting known) (c.in_ok-add_note.ensures.sized known)
    (c.in_ok-add_note.ensures.settled known).rises (c.remove_done.ensures.crash known)

pub returns-clause-crash : goal.returns-clause-crash
returns-clause-crash g c = λ known.
    let was = c.requires known in
    let disk = g.D.Device.files c.args.self.now.device in
    noted-leaves g.D.Device.moment g.D.Device.left_at c.args.self.now.device
    c.add_note.new.self.device c.remove_done.new.self.device disk
    (g.D.Device.files c.add_note.new.self.device) c.args.number c.min-noted.result
    (c.min-noted.ensures ∙ ap (λ (n : ℕ). min c.args.number n) was.next)
    (note-room disk _ _ _ (c.in_ok-bytes.ensures.is known)
    (omega (arith, c.if-noted-self.false, was.done))) (c.add_note.ensures.crash known)
    (c.in_ok-add_note.ensures.waiting known) (c.in_ok-add_note.ensures.sized known)
    (c.in_ok-add_note.ensures.settled known).rises (c.remove_done.ensures.crash known)

pub returns-clause-waiting : goal.returns-clause-waiting
returns-clause-waiting g c = λ known.
    let was = c.requires known in
    (c.in_ok-remove_done.ensures.same known).waits
    ∙ (c.in_ok-add_note.ensures.waiting known
    ∙ same-numbered (g.D.Device.files c.args.self.now.device) c.args.number c.min-noted.result
    (c.min-noted.ensures ∙ ap (λ (n : ℕ). min c.args.number n) was.next))

pub returns-clause-bound : goal.returns-clause-bound
returns-clause-bound g c = λ known.
    let was = c.requires known in
    let last = c.in_ok-remove_done.ensures.settled known in
    let no_larger = c.in_ok-remove_done.ensures.same known in
    note-reserved (g.D.Device.files c.args.self.now.device) _ _ _ (c.in_ok-bytes.ensures.is known)
    (omega (arith, c.if-noted-self.false, was.done))
    (g.D.Device.files c.remove_done.new.self.device)
    (omega (arith, no_larger.size, c.in_ok-add_note.ensures.sized known))
    (sym last.next
    ∙ (c.in_ok-remove_done.ensures.next ∙ (c.in_ok-add_note.ensures.next known ∙ was.next)))
    (sym last.done ∙ (c.in_ok-remove_done.ensures.done ∙ c.in_ok-add_note.ensures.done))

pub returns-clause-next : goal.returns-clause-next
returns-clause-next g c = λ known.
    sym (c.in_ok-remove_done.ensures.settled known).next
    ∙ (c.in_ok-remove_done.ensures.next
    ∙ (c.in_ok-add_note.ensures.next known ∙ (c.requires known).next))
