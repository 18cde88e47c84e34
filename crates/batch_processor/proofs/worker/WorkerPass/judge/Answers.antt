use Rattle.std.proofs.Common.{rules, ◌≡◌, false, ap, ◌∙◌, subst, sym}
use Rattle.std.specs.Prelude.{None, Option, Some}
use Rattle.batch_processor.specs.Working.{GoesOn, Hand, IsPassWith, Work, in_hand, is_pending_in}
use Rattle.batch_processor.specs.Working.{work_in}
use Rattle.batch_processor.proofs.Turns.{aside_pass, aside_step, no_turn, pass_judged, pass_working}
use Rattle.batch_processor.proofs.Turns.{turn_goes}
use Rattle.batch_processor.proofs.worker.WorkerPass.judge.Goals as goal

pub judge-kept-requires : goal.judge-kept-requires
judge-kept-requires g c =
    let was : c.self.inside.in_hand ≡ Some c.in-Some.hand = search rules in
    pass_working c.self.inside.left c.self.inside.sender c.in-Some.hand
    (subst (IsPassWith c.self.inside.left c.self.inside.sender) was c.self.invariant)

pub invariant_of-self : goal.invariant_of-self
invariant_of-self g c =
    let was : c.self.inside.in_hand ≡ None = search rules in
    let left : c.take.new.self ≡ None = search rules in
    subst (IsPassWith c.self.inside.left c.self.inside.sender) (was ∙ sym left) c.self.invariant

pub invariant_of-self-2 : goal.invariant_of-self-2
invariant_of-self-2 g c =
    let was : c.self.inside.in_hand ≡ Some c.in-Some.hand = search rules in
    let pass = subst (IsPassWith c.self.inside.left c.self.inside.sender) was c.self.invariant in
    aside_pass c.self.inside.left c.self.inside.sender c.judge-kept.new.self c.in-Some.hand
    c.judge-kept.result c.keep.new.in_hand pass c.judge-kept.ensures.step c.keep.ensures

pub returns-clause-goes_on : goal.returns-clause-goes_on
returns-clause-goes_on g c = λ told.
    let was : c.self.inside.in_hand ≡ Some c.in-Some.hand = search rules in
    turn_goes told told
    (λ _. c.self.inside.sender.origin.retry.attempts) c.self.inside.sender c.judge-kept.new.self
    c.self.inside.in_hand
    (Some c.in-Some.hand) c.judge-kept.result c.keep.new.in_hand c.args.self.now c.self.view_is
    was c.keep.ensures
    (aside_step c.self.inside.sender c.judge-kept.new.self
    (Some c.in-Some.hand) c.judge-kept.result c.judge-kept.ensures.step told)

pub returns-clause-judged : goal.returns-clause-judged
returns-clause-judged g c =
    let was : c.self.inside.in_hand ≡ Some c.in-Some.hand = search rules in
    let pass = subst (IsPassWith c.self.inside.left c.self.inside.sender) was c.self.invariant in
    let after =
    aside_pass c.self.inside.left c.self.inside.sender c.judge-kept.new.self c.in-Some.hand
    c.judge-kept.result c.keep.new.in_hand pass c.judge-kept.ensures.step c.keep.ensures in
    pass_judged c.self.inside.left c.judge-kept.new.self c.keep.new.in_hand after
    (ap (in_hand false is_pending_in) c.keep.ensures ∙ c.judge-kept.ensures.judged)

pub returns-in_default-clause-goes_on : goal.returns-in_default-clause-goes_on
returns-in_default-clause-goes_on g c = λ told.
    let was : c.self.inside.in_hand ≡ None = search rules in
    let left : c.take.new.self ≡ None = search rules in
    subst (λ (h : Option Hand). GoesOn told told c.args.self.now (work_in c.self.inside.sender h))
    (was ∙ sym left)
    (subst (λ (w : Work). GoesOn told told c.args.self.now w) (sym c.self.view_is)
    (no_turn told c.args.self.now))

pub returns-in_default-clause-judged : goal.returns-in_default-clause-judged
returns-in_default-clause-judged g c =
    let was : c.self.inside.in_hand ≡ None = search rules in
    let left : c.take.new.self ≡ None = search rules in
    let pass =
    subst (IsPassWith c.self.inside.left c.self.inside.sender) (was ∙ sym left) c.self.invariant in
    pass_judged c.self.inside.left c.self.inside.sender c.take.new.self pass
    (ap (in_hand false is_pending_in) left)
