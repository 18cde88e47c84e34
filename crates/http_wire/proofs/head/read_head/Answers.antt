use Rattle.std.proofs.Common.{rules, ◌≡◌, ◌<◌, ◌≤◌, ◌∙◌, length, sym, subst, refl, arith, inl, Ok}
use Rattle.std.proofs.Common.{IfNone}
use Rattle.std.specs.Prelude.{Some, None}
use Rattle.std.proofs.lemmas.Bool.{false≢true}
use Rattle.std.proofs.KnownBytes.{Consumes-nil}
use Rattle.std.specs.Io.KnownBytes.{Consumes, IsAtEnd}
use Rattle.http_wire.specs.declared.fault.HttpFault.TheVariants as faults
use Rattle.http_wire.specs.Devices.{HasFailed}
use Rattle.http_wire.specs.Heads.{HasNone, ParsesSuchHead, IsStoppedHead}
use Rattle.http_wire.specs.Places.{IsPlace}
use Rattle.http_wire.proofs.ChunkLemmas.{grows}
use Rattle.http_wire.proofs.HeadStops.{found_whole, stopped_lacks}
use Rattle.http_wire.proofs.PlaceLemmas.{none_before_due, none_of_nothing}
use Rattle.http_wire.proofs.head.read_head.Goals as goal

pub loop-place-init : goal.loop-place-init
loop-place-init g c =
    let empty = c.clear.ensures.items in
    let left = g.R.FaultRead.remaining c.args.reader.now in (
      subst (Consumes left left) (sym empty) (Consumes-nil left),
      subst (HasNone g.P.ParseHead.valid g.P.ParseHead.printed) (sym empty)
          (none_of_nothing g.P.ParseHead.valid g.P.ParseHead.printed g.met.P.ParseHead.due),
      subst (λ text. length text ≤ c.args.limits.now.head) (sym empty) (omega arith),
      c.requires,
      refl,
      subst (λ text. IsPlace text c.new-place.result) (sym empty) c.new-place.ensures,
    )

pub returns-in-Some-clause-head : goal.returns-in-Some-clause-head
returns-in-Some-clause-head g c =
    let P = g.P.ParseHead in
    let found : ParsesSuchHead (HasNone P.valid P.printed) P.may_become P.never_has P.exceeds
    P.covers P.is_within c.push_reserved.new.self.items
    (length c.loop-place.spans) c.parse.new.spans (Ok (Some c.in-Some.head)) =
    search rules in
    let none =
    subst (HasNone P.valid P.printed) (sym c.reserve.ensures.items) c.loop-place.invariant.1 in
    let below : length c.reserve.new.self.items < c.args.limits.now.head =
    subst (λ t. length t < c.args.limits.now.head) (sym c.reserve.ensures.items) (search rules) in
    found_whole P.valid P.printed P.fields_in P.covers P.is_within g.met.P.ParseHead.begins
    g.met.P.ParseHead.fits c.args.limits.now c.reserve.new.self.items
    c.push_reserved.new.self.items _ c.parse.new.spans c.in-Some.head none
    c.push_reserved.ensures.items below (c.parse.ensures.room ∙ c.loop-place.invariant.3) found

pub returns-in-Some-clause-taken : goal.returns-in-Some-clause-taken
returns-in-Some-clause-taken g c =
    let grown =
    grows c.args.limits.now.head _ _ _ c.loop-place.text.items c.reserve.new.self.items
    c.push_reserved.new.self.items c.in-Ok-Some.byte _ c.loop-place.invariant.0
    (search rules) c.reserve.ensures.items c.push_reserved.ensures.items c.in-Ok-Some.field-0-is
    c.in-Ok-Some.ensures.some in
    grown.taken

pub returns-in_err-head-clause-taken : goal.returns-in_err-head-clause-taken
returns-in_err-head-clause-taken g c =
    let grown =
    grows c.args.limits.now.head _ _ _ c.loop-place.text.items c.reserve.new.self.items
    c.push_reserved.new.self.items c.in-Ok-Some.byte _ c.loop-place.invariant.0
    (search rules) c.reserve.ensures.items c.push_reserved.ensures.items c.in-Ok-Some.field-0-is
    c.in-Ok-Some.ensures.some in
    grown.taken

pub loop-place-preserved : goal.loop-place-preserved
loop-place-preserved g c =
    let grown =
    grows c.args.limits.now.head _ _ _ c.loop-place.text.items c.reserve.new.self.items
    c.push_reserved.new.self.items c.in-Ok-Some.byte _ c.loop-place.invariant.0
    (search rules) c.reserve.ensures.items c.push_reserved.ensures.items c.in-Ok-Some.field-0-is
    c.in-Ok-Some.ensures.some in
    let at = c.loop-place.invariant.5 in
    let due = c.pass.ensures.due c.loop-place.text.items at in
    let none =
    none_before_due g.P.ParseHead.valid g.P.ParseHead.printed g.met.P.ParseHead.due
    c.loop-place.text.items c.in-Ok-Some.byte c.loop-place.invariant.1
    (λ is. false≢true (sym c.if-pass.false ∙ due.1 is)) in (
      grown.taken,
      subst (HasNone g.P.ParseHead.valid g.P.ParseHead.printed) (sym grown.is) none,
      grown.bytes,
      c.loop-place.invariant.3,
      c.in-Ok-Some.ensures.counted ∙ c.loop-place.invariant.4,
      subst (λ t. IsPlace t c.pass.new.self) (sym grown.is)
          (c.pass.ensures.place c.loop-place.text.items at),
    )

pub loop-place-preserved-in_default : goal.loop-place-preserved-in_default
loop-place-preserved-in_default g c =
    let grown =
    grows c.args.limits.now.head _ _ _ c.loop-place.text.items c.reserve.new.self.items
    c.push_reserved.new.self.items c.in-Ok-Some.byte _ c.loop-place.invariant.0
    (search rules) c.reserve.ensures.items c.push_reserved.ensures.items c.in-Ok-Some.field-0-is
    c.in-Ok-Some.ensures.some in
    let P = g.P.ParseHead in
    let parsed : ParsesSuchHead (HasNone P.valid P.printed) P.may_become P.never_has P.exceeds
    P.covers P.is_within c.push_reserved.new.self.items
    (length c.loop-place.spans) c.parse.new.spans (Ok None) =
    search rules in (
      grown.taken,
      parsed.0,
      grown.bytes,
      c.parse.ensures.room ∙ c.loop-place.invariant.3,
      c.in-Ok-Some.ensures.counted ∙ c.loop-place.invariant.4,
      subst (λ t. IsPlace t c.pass.new.self) (sym grown.is)
          (c.pass.ensures.place c.loop-place.text.items c.loop-place.invariant.5),
    )

pub returns-in-Ok-None-clause-none : goal.returns-in-Ok-None-clause-none
returns-in-Ok-None-clause-none g c =
    let kept = c.reserve.new.self.items in
    let below : length kept < c.args.limits.now.head =
    subst (λ t. length t < c.args.limits.now.head) (sym c.reserve.ensures.items) (search rules) in
    let end =
    subst (λ o. IfNone o (IsAtEnd (g.R.FaultRead.remaining c.read_byte.new.reader)))
    c.in-Ok-None.field-0-is c.in-Ok-None.ensures.end in
    stopped_lacks _ _ _ _ c.args.limits.now kept _ _ _ faults.Ended c.stopped-in-Ok-None.result
    (λ is. (end, is, below)) (omega (arith, below)) c.loop-place.invariant.3
    (subst (λ t. IsStoppedHead (HasNone g.P.ParseHead.valid g.P.ParseHead.printed)
    g.P.ParseHead.may_become
    g.P.ParseHead.never_has g.P.ParseHead.exceeds t
    (length c.loop-place.spans) faults.Ended c.stopped-in-Ok-None.result)
    c.deref-in-Ok-None.ensures.value c.stopped-in-Ok-None.ensures)

pub returns-in-Err-clause-none : goal.returns-in-Err-clause-none
returns-in-Err-clause-none g c =
    let kept = c.reserve.new.self.items in
    let below : length kept < c.args.limits.now.head =
    subst (λ t. length t < c.args.limits.now.head) (sym c.reserve.ensures.items) (search rules) in
    let failed : HasFailed (g.R.FaultRead.failures c.args.reader.now)
    (g.R.FaultRead.failures c.read_byte.new.reader) =
    search rules in
    stopped_lacks _ _ _ _ c.args.limits.now kept _ _ _ faults.Device c.stopped-in-Err.result
    (λ is. (failed, is, below)) (omega (arith, below)) c.loop-place.invariant.3
    (subst (λ t. IsStoppedHead (HasNone g.P.ParseHead.valid g.P.ParseHead.printed)
    g.P.ParseHead.may_become
    g.P.ParseHead.never_has g.P.ParseHead.exceeds t
    (length c.loop-place.spans) faults.Device c.stopped-in-Err.result)
    c.deref-in-Err.ensures.value c.stopped-in-Err.ensures)

pub returns-clause-none : goal.returns-clause-none
returns-clause-none g c =
    let text = c.loop-place.text.items in
    let short = c.loop-place.invariant.2 in
    let test = c.loop-place-test.false in
    let full : length text ≡ c.args.limits.now.head = omega (arith, short, test) in
    stopped_lacks _ _ _ _ c.args.limits.now text _ _ _ faults.TooLarge c.stopped-2.result
    (λ is. (short, inl (is, full))) short c.loop-place.invariant.3
    (subst (λ t. IsStoppedHead (HasNone g.P.ParseHead.valid g.P.ParseHead.printed)
    g.P.ParseHead.may_become
    g.P.ParseHead.never_has g.P.ParseHead.exceeds t
    (length c.loop-place.spans) faults.TooLarge c.stopped-2.result)
    c.deref-2.ensures.value c.stopped-2.ensures)
