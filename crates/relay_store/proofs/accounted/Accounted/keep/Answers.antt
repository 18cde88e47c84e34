use Rattle.std.proofs.Common.{◌∙◌, [], ◌∷◌, ap, refl, sym}
use Rattle.relay_queue.specs.declared.keeper.KeepFault.TheVariants as KeepFault
use Rattle.relay_store.specs.Kept.{Kept}
use Rattle.relay_store.proofs.Basics.{true-false}
use Rattle.relay_store.specs.Accounts.{after_posts}
use Rattle.relay_store.specs.Agreement.{IsInOrder}
use Rattle.relay_store.proofs.Held.{err-same, keeps-in}
use Rattle.relay_store.proofs.Known.{keep-step, known-post}
use Rattle.relay_store.proofs.Order.{keep-order}
use Rattle.relay_store.proofs.accounted.Accounted.keep.Goals as goal

pub returns-then-self-clause-failed : goal.returns-then-self-clause-failed
returns-then-self-clause-failed g c = λ e. record {
  old = c.self.inside.keeping;
  new = c.self.inside.keeping;
  only = refl;
  failed = λ is.
      absurd (true-false (sym is ∙ (c.self.invariant.agrees.none c.if-self.true).0));
}

pub returns-in_err-keep-clause-failed : goal.returns-in_err-keep-clause-failed
returns-in_err-keep-clause-failed g c = λ e. record {
  old = c.self.inside.keeping;
  new = c.keep.new.self;
  only = c.in_err-keep.ensures.failed (err-same c.from_residual.result
      c.in_err-keep.field-0.0 KeepFault.Failed c.from_residual.ensures.1 e);
  failed = λ is. (c.in_err-keep.ensures.is_failed (err-same c.from_residual.result
      c.in_err-keep.field-0.0 KeepFault.Failed c.from_residual.ensures.1 e)).1;
}

pub invariant_of-self-2 : goal.invariant_of-self-2
invariant_of-self-2 g c =
    let old = c.self.inside.keeping in
    let new = c.keep.new.self in
    known-post old.desk new.desk old.is_spooled new.is_spooled c.self.inside.is_closed
    c.self.inside.is_closed
    (IsInOrder g.D.Device.is_known g.D.Device.files old c.self.inside.is_reopened)
    (IsInOrder g.D.Device.is_known g.D.Device.files new c.self.inside.is_reopened)
    c.self.inside.book c.record.new.self c.args.account.now
    c.record.new.account c.self.invariant c.record.ensures.book (c.args.body.items ∷ [])
    c.requires
    (c.record.ensures.account
    ∙ ap (λ v. after_posts (v.items ∷ []) c.args.account.now) c.of-seen.ensures)
    (λ p s gave.
    keep-step old new c.self.inside.is_closed c.args.body.items c.args.spans p s gave
    c.if-self.false c.in_ok-keep.ensures.admitted
    (λ is.
    let only = c.in_ok-keep.ensures.put_only is in
    (ap (λ (k : Kept _). k.desk) only, ap (λ (k : Kept _). k.is_spooled) only)))
    (λ p s.
    keep-order g.D.Device.is_known g.D.Device.files old new c.self.inside.is_reopened
    c.args.body.items c.args.spans c.in_ok-keep.ensures.admitted
    (λ is.
    let only = c.in_ok-keep.ensures.put_only is in
    (ap (λ (k : Kept _). k.is_spooled) only, ap (λ (k : Kept _). k.has_failed) only))
    c.in_ok-keep.ensures.remaining p s)

pub returns-clause-kept : goal.returns-clause-kept
returns-clause-kept g c =
    keeps-in g.D.Device.is_known g.D.Device.files g.D.Device.moment g.D.Device.left_at
    c.self.inside.keeping c.keep.new.self c.args.body.items c.args.spans
    c.in_ok-keep.ensures.admitted c.in_ok-keep.ensures.put
