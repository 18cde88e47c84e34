-- None joins where the peers are judged.
use Rattle.std.proofs.Common.{◌≡◌, ℕ, Option, None, subst}
use Rattle.http_listener.specs.Crowds.{JudgedAt}
use Rattle.http_listener.specs.declared.clock.StageTimes.{StageTimes}
use Rattle.http_listener.specs.declared.peer.Peer.{Peer}

module _ {T P : Type 0} (times : StageTimes) (now : ℕ) where
  -- Where there was none, there is none.
  pub none-joins : (before after : Option (Peer T P)) → JudgedAt times now before after
      → before ≡ None → after ≡ None
  none-joins before after judged none =
      subst (λ (o : Option (Peer T P)). JudgedAt times now o after) none judged
