use Rattle.std.proofs.Common.{◌∙◌, ap, subst, sym}
use Rattle.retry_core.specs.Retries.{outcome_view}
use Rattle.relay_store.specs.Accounts.{sent_in}
use Rattle.relay_store.specs.Handlers.{Attempted, Handler}
use Rattle.relay_store.specs.declared.sender.Tried.TheVariants as tried
use Rattle.relay_store.proofs.Handled.{sends-in-hand}
use Rattle.relay_store.proofs.sender.RelaySender.attempt.Goals as goal
use Rattle.relay_store.proofs.sender.RelaySender.attempt.Goals.{in-Ok, in-Err}

pub returns : goal.returns
returns g c =
    let sent = sent_in c.self.inside.account in
    let new : Handler = record { sender = c.attempt.new.self; sent = sent } in
    let had = g.E.Exporter.handed c.args.exporter.now in
    let has = g.E.Exporter.handed c.attempt.new.exporter in
    let ready = ap (λ (h : Handler). h.sender.stage) c.self.view_is ∙ c.requires in
    elim c.match-attempt.branch [
      | in-Ok w ↦
          subst (λ r. Attempted r c.args.self.now new had has) (sym w.result-is)
          (subst (λ h. Attempted (tried.Came w.in-Ok.outcome) h new had has) c.self.view_is
          (sends-in-hand (outcome_view w.in-Ok.outcome) c.self.inside.sender c.attempt.new.self
          c.self.inside.account had has c.self.invariant ready w.in-Ok.ensures.sent))
      | in-Err w ↦
          subst (λ r. Attempted r c.args.self.now new had has) (sym w.result-is)
          (subst (λ h. Attempted tried.OutOfMemory h new had has) c.self.view_is (
            ap (λ s. record { sender = s; sent = sent }) w.in-Err.ensures.refused.0,
            ap g.E.Exporter.handed w.in-Err.ensures.refused.1,
          ))
    ]
