use Rattle.std.proofs.Common.{ap, rules, ◌∙◌}
use Rattle.trace_api.specs.declared.pass.Ended.{Ended}
use Rattle.processor_account.specs.Views.{after_end}
use Rattle.batch_processor.specs.Views.{ended_of, setup_view}
use Rattle.model_processor.proofs.AccountState.{kept_pass}
use Rattle.model_processor.specs.AnyAccounts.{account_in, on_pass}
use Rattle.batch_processor.proofs.Holds.{admit_agrees, admit_config, in_hold}
use Rattle.batch_processor.proofs.lock.shared.Shared.admit.Goals.{in-None, in-Some}
use Rattle.batch_processor.proofs.lock.shared.Shared.admit.Goals as goal

pub invariant_of-self : goal.invariant_of-self
invariant_of-self g c =
    let desk = c.self.inside.desk in
    let after = c.offer-admitted.new.self in
    let span = c.of-seen.result.value in
    let answer = c.offer-admitted.result.0 in
    kept_pass (setup_view c.self.inside.setup) c.self.inside.left c.self.inside.desk after
    c.self.inside.book c.record.new.self c.args.account.now c.record.new.account c.self.invariant
    c.record.ensures.book
    (admit_config desk after answer span (rw c.of-seen.ensures c.offer-admitted.ensures.desk))
    (after_end (ended_of answer) span) c.requires
    (c.record.ensures.account
    ∙ ap (λ (e : Ended). on_pass (after_end e span) c.args.account.now) c.ended_of-answer.ensures)
    (λ w new is r k. admit_agrees desk after w _ new
    (account_in c.args.account.now) span k answer c.offer-admitted.ensures.answer
    (rw c.of-seen.ensures c.offer-admitted.ensures.desk) r)

pub invariant_of-self-in-Some : goal.invariant_of-self-in-Some
invariant_of-self-in-Some g c =
    let desk = c.self.inside.desk in
    let after = c.offer-admitted.new.self in
    let span = c.of-seen.result.value in
    let answer = c.offer-admitted.result.0 in
    kept_pass (setup_view c.self.inside.setup) c.self.inside.left c.self.inside.desk after
    c.self.inside.book c.record.new.self c.args.account.now c.record.new.account c.self.invariant
    c.record.ensures.book
    (admit_config desk after answer span (rw c.of-seen.ensures c.offer-admitted.ensures.desk))
    (after_end (ended_of answer) span) c.requires
    (c.record.ensures.account
    ∙ ap (λ (e : Ended). on_pass (after_end e span) c.args.account.now) c.ended_of-answer.ensures)
    (λ w new is r k. admit_agrees desk after w _ new
    (account_in c.args.account.now) span k answer c.offer-admitted.ensures.answer
    (rw c.of-seen.ensures c.offer-admitted.ensures.desk) r)

pub returns-clause-hold : goal.returns-clause-hold
returns-clause-hold g c =
    in_hold (setup_view c.self.inside.setup) c.self.inside.left c.self.inside.desk
    c.self.inside.book c.record.new.self c.args.account.now c.record.new.account c.args.self.now
    c.self.invariant c.record.ensures.book c.requires c.self.view_is

pub returns-clause-spent : goal.returns-clause-spent
returns-clause-spent g c =
    elim c.match-remains.branch [ in-None w ↦ search rules | in-Some w ↦ search rules ]
