use Rattle.std.proofs.Common.{rules, ◌≡◌, ◌∷◌, ◌++◌, [], List, ap, ◌∙◌, refl, subst, sym}
use Rattle.std.proofs.lemmas.List.{map_push}
use Rattle.std.specs.Prelude.{Option, Some}
use Rattle.model_desk.specs.Retries as model
use Rattle.model_processor.specs.AnyAccounts.{worker_in}
use Rattle.processor_account.specs.Views.{outcomes_view}
use Rattle.retry_core.specs.Retries.{outcome_view}
use Rattle.batch_sending.specs.Sendings.{is_sent_at}
use Rattle.batch_processor.specs.Views.{setup_view}
use Rattle.batch_processor.specs.Working.{Hand, IsWorkingWith, StepsAside, TakesStep, WorkerState}
use Rattle.batch_processor.specs.Working.{hand_at}
use Rattle.batch_processor.proofs.Turns.{aside_of, no_step, sent_step, state_of}
use Rattle.batch_processor.proofs.steps.BatchSender.step.Goals as goal

pub returns-in-Sent : goal.returns-in-Sent
returns-in-Sent g c =
    let s = c.args.self.now in
    let batch = c.hand.inside.batch in
    let sending = c.in-Some.sending in
    let sending' = c.attempt.new.self in
    let told = g.E.Exporter.handed c.args.exporter.now in
    let told' = g.E.Exporter.handed c.attempt.new.exporter in
    let room' = g.E.Exporter.room c.attempt.new.exporter in
    let o = outcome_view c.in-Sent.outcome in
    let was : Some c.args.hand ≡ hand_at batch (Some sending) = search rules in
    let attempted = c.in-Sent.ensures.attempts in
    let origin = setup_view c.self.inside.setup in
    let w = worker_in c.self.inside.holder in
    let new = state_of origin w (outcomes_view c.push_reserved.new.self.items) in
    let more =
    ap outcomes_view c.push_reserved.ensures.items
    ∙ map_push outcome_view c.self.inside.outcomes.items c.in-Sent.outcome in
    subst (λ (h : Option Hand). TakesStep told told' room' s (Some c.args.hand) new h)
    (sym c.in_hand.ensures)
    (subst (λ (h : Option Hand).
    TakesStep told told' room' s h new (hand_at batch (Some sending')))
    (sym was)
    (sent_step s batch sending (subst (IsWorkingWith s) was c.requires.works) told told' room'
    c.now.result c.in-Sent.attempt o sending' new attempted.may attempted.next attempted.gains
    attempted.sending c.in-Sent.ensures.room
    (ap (λ (xs : List model.Outcome). state_of origin w xs) more
    ∙ ap (λ (x : WorkerState). record x { outcomes = x.outcomes ++ o ∷ [] })
    (c.self.view_is ∙ c.begin.ensures))))

pub returns-in-Early : goal.returns-in-Early
returns-in-Early g c =
    let s = c.args.self.now in
    let batch = c.hand.inside.batch in
    let sending = c.in-Some.sending in
    let sending' = c.attempt.new.self in
    let told = g.E.Exporter.handed c.args.exporter.now in
    let told' = g.E.Exporter.handed c.attempt.new.exporter in
    let room' = g.E.Exporter.room c.attempt.new.exporter in
    let new = c.begin.new.self in
    let was : Some c.args.hand ≡ hand_at batch (Some sending) = search rules in
    let attempted = c.in-Early.ensures.attempts in
    subst (λ (h : Option Hand). TakesStep told told' room' s (Some c.args.hand) new h)
    (sym c.in_hand-in-Early.ensures)
    (subst (λ (h : Option Hand).
    TakesStep told told' room' s h new (hand_at batch (Some sending')))
    (sym was)
    (aside_of s batch sending (subst (IsWorkingWith s) was c.requires.works) told told' room'
    sending' new new (hand_at batch (Some sending')) (ap is_sent_at attempted.stage)
    attempted.nothing_is_sent attempted.sending c.in-Early.ensures.room c.begin.ensures
    (λ kept. no_step new new (hand_at batch (Some sending')) kept refl)))

pub returns-in-Unjudged : goal.returns-in-Unjudged
returns-in-Unjudged g c =
    let s = c.args.self.now in
    let batch = c.hand.inside.batch in
    let sending = c.in-Some.sending in
    let sending' = c.attempt.new.self in
    let told = g.E.Exporter.handed c.args.exporter.now in
    let told' = g.E.Exporter.handed c.attempt.new.exporter in
    let room' = g.E.Exporter.room c.attempt.new.exporter in
    let mid = c.begin.new.self in
    let new = c.judge.new.self in
    let was : Some c.args.hand ≡ hand_at batch (Some sending) = search rules in
    let attempted = c.in-Unjudged.ensures.attempts in
    subst (λ (h : Option Hand). TakesStep told told' room' s h new c.judge.result) (sym was)
    (aside_of s batch sending (subst (IsWorkingWith s) was c.requires.works) told told' room'
    sending' mid new c.judge.result (ap is_sent_at attempted.stage)
    attempted.nothing_is_sent attempted.sending c.in-Unjudged.ensures.room c.begin.ensures
    (λ _. subst (λ (h : Option Hand). StepsAside mid h new c.judge.result)
    c.in_hand-in-Unjudged.ensures c.judge.ensures.step))
