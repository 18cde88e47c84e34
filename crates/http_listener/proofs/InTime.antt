-- What is left of a peer that was judged has time.
use Rattle.std.proofs.Common.{◌≡◌, ◌≢◌, ◌<◌, ◌≤◌, ◌⊎◌, ℕ, Option, Some, None, ap, subst, sym}
use Rattle.std.proofs.Common.{refl, inl, inr, rules, arith}
use Rattle.std.proofs.lemmas.Grind.{common_steps}
use Rattle.std.proofs.lemmas.Bool.{cases_lt}
use Rattle.std.specs.Prelude.{◌+◌, IfSome}
use Rattle.http_connection.specs.Connections.{phase_of}
use Rattle.http_connection.specs.declared.connection.Connection.{Connection}
use Rattle.http_connection.specs.declared.limits.Phase.TheVariants.{Done}
use Rattle.http_listener.specs.Clocks.{IsOver, due_at, time_at}
use Rattle.http_listener.specs.Crowds.{IsInTime, IsJudged, IsShut, JudgedAt}
use Rattle.http_listener.specs.declared.clock.Stage.{Stage}
use Rattle.http_listener.specs.declared.clock.Stage.TheVariants as stages
use Rattle.http_listener.specs.declared.clock.StageTimes.{StageTimes}
use Rattle.http_listener.specs.declared.peer.Peer.{Peer}

module _ {T P : Type 0} (times : StageTimes) (now : ℕ) where
  gone : (after : Option (Peer T P)) → after ≡ None → IfSome after (IsInTime times now)
  gone after none =
      subst (λ (o : Option (Peer T P)). IfSome o (IsInTime times now)) (sym none) tt

  shut : (peer : Peer T P) (after : Option (Peer T P)) → peer.clock.stage ≡ stages.Discarding
      → IfSome after (IsShut now peer) → IfSome after (IsInTime times now)
  shut peer None same is_shut = tt
  shut peer (Some p) same is_shut =
      let differs : peer.clock.stage ≢ stages.Closing =
      first_of (search rules, grind (arith, common_steps)) in
      inr (λ live. is_shut.clock
      (subst (λ (c : Connection P). phase_of c ≢ Done) is_shut.connection live) differs)

  -- one that was over its time
  over : (peer : Peer T P) (after : Option (Peer T P)) (stage : Stage)
      → peer.clock.stage ≡ stage → IsOver times peer.clock now → IsJudged times now peer after
      → IfSome after (IsInTime times now)
  over peer after stages.Idle same is_over judged =
      gone after (judged.closed is_over (ap due_at same))
  over peer after stages.Receiving same is_over judged =
      gone after (judged.closed is_over (ap due_at same))
  over peer after stages.Answering same is_over judged =
      gone after (judged.closed is_over (ap due_at same))
  over peer after stages.Discarding same is_over judged =
      shut peer after same (judged.shut is_over (ap due_at same))
  over peer after stages.Closing same is_over judged =
      gone after (judged.closed is_over (ap due_at same))

  one : (peer : Peer T P) (after : Option (Peer T P))
      → (now < peer.clock.since_ms + time_at times peer.clock.stage)
      ⊎ (peer.clock.since_ms + time_at times peer.clock.stage ≤ now)
      → IsJudged times now peer after → IfSome after (IsInTime times now)
  one peer after (inl early) judged =
      let waits : ¬ IsOver times peer.clock now =
      first_of (search rules, grind (arith, common_steps)) in
      subst (λ (o : Option (Peer T P)). IfSome o (IsInTime times now))
      (sym (judged.waits waits)) (inl waits)
  one peer after (inr late) judged = over peer after peer.clock.stage refl late judged

  -- What is left where there was a peer or none, and it was judged, has time.
  pub in-time : (before after : Option (Peer T P)) → JudgedAt times now before after
      → IfSome after (IsInTime times now)
  in-time None after judged = gone after judged
  in-time (Some peer) after judged =
      one peer after (cases_lt now (peer.clock.since_ms + time_at times peer.clock.stage)) judged
