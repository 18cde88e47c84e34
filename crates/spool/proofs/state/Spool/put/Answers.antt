use Rattle.std.proofs.Common.{ap, sym, ◌∙◌, subst, ℕ, map, length, arith, Vec, Global}
use Rattle.std.proofs.lemmas.List.{length-map}
use Rattle.spool.specs.Crashes.{LeavesOnly}
use Rattle.spool.specs.Settled.{LeftByAdding}
use Rattle.spool.proofs.CallLaws.{is-put, put-leaves}
use Rattle.spool.proofs.state.Spool.put.Goals as goal

pub returns-in_err-add_bodies-clause-crash : goal.returns-in_err-add_bodies-clause-crash
returns-in_err-add_bodies-clause-crash g c = λ known.
    let was = c.requires known in
    let disk = g.D.Device.files c.args.self.now.device in
    let now = g.D.Device.files c.take_room.new.self.device in
    let bodies = map (λ (body : Vec ℕ Global). body.items) c.args.bodies.now in
    let e = c.in_ok-size.ensures in
    let put =
    is-put now bodies c.deref.result.now c.len.result (length c.args.bodies.now) c.in_ok-size.size
    c.in_ok-size.next c.take_room.new.self.limit c.in_ok-bytes.ensures.fits
    (c.deref.ensures.value ∙ c.in_ok-bytes.ensures.written)
    (omega (
      arith,
      c.len.ensures,
      c.in_ok-bytes.bytes.ok.0,
      ap length c.deref.ensures.value,
    ))
    (sym (length-map c.args.bodies.now (λ (body : Vec ℕ Global). body.items))) (e.room known) in
    put-leaves g.D.Device.moment g.D.Device.left_at c.args.self.now.device
    c.take_room.new.self.device c.add_bodies.new.self.device disk now bodies c.args.self.now.limit
    was.rises (e.waiting known) (sym (e.settled known).next ∙ (e.next ∙ was.next))
    (c.take_room.ensures.crash known)
    (subst (λ (l : ℕ). LeavesOnly g.D.Device.moment g.D.Device.left_at
    c.take_room.new.self.device c.add_bodies.new.self.device (LeftByAdding now bodies l))
    c.take_room.ensures.limit (c.add_bodies.ensures.crash known bodies put))

pub returns-clause-crash : goal.returns-clause-crash
returns-clause-crash g c = λ known.
    let was = c.requires known in
    let disk = g.D.Device.files c.args.self.now.device in
    let now = g.D.Device.files c.take_room.new.self.device in
    let bodies = map (λ (body : Vec ℕ Global). body.items) c.args.bodies.now in
    let e = c.in_ok-size.ensures in
    let put =
    is-put now bodies c.deref.result.now c.len.result (length c.args.bodies.now) c.in_ok-size.size
    c.in_ok-size.next c.take_room.new.self.limit c.in_ok-bytes.ensures.fits
    (c.deref.ensures.value ∙ c.in_ok-bytes.ensures.written)
    (omega (
      arith,
      c.len.ensures,
      c.in_ok-bytes.bytes.ok.0,
      ap length c.deref.ensures.value,
    ))
    (sym (length-map c.args.bodies.now (λ (body : Vec ℕ Global). body.items))) (e.room known) in
    put-leaves g.D.Device.moment g.D.Device.left_at c.args.self.now.device
    c.take_room.new.self.device c.add_bodies.new.self.device disk now bodies c.args.self.now.limit
    was.rises (e.waiting known) (sym (e.settled known).next ∙ (e.next ∙ was.next))
    (c.take_room.ensures.crash known)
    (subst (λ (l : ℕ). LeavesOnly g.D.Device.moment g.D.Device.left_at
    c.take_room.new.self.device c.add_bodies.new.self.device (LeftByAdding now bodies l))
    c.take_room.ensures.limit (c.add_bodies.ensures.crash known bodies put))
