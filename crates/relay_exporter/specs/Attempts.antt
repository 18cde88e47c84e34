-- Attempts by an exporter that tells the refusal of a body from an outage. (profile)
use Rattle.std.specs.Prelude.{◌≡◌, ℕ, Bool, true, false, List, [], Option}
use Rattle.model_desk.specs.Retries.{Outcome}
use Rattle.http_exporter.specs.declared.failure.Failure.{Failure}
use Rattle.relay_exporter.specs.declared.judge.Judge.{Judge}
use Rattle.relay_exporter.specs.Outages.{asks, in_seconds, is_taken, judge_after, judged}

-- the exporter below, what is known of the collector, and what the last attempt met that failed
pub record Guarding (Exporter : Type 0) : Type 0 where
  pub exporter : Exporter
  pub judge : Judge
  pub failure : Option Failure

-- Whether the collector takes other requests than the one with this outcome: it has taken the one
-- before, or, where that counts, it takes an empty one now.
pub record TakesOthers {Exporter : Type 0}
    (attempts : Exporter → List ℕ → Outcome → Exporter → Type 0)
    (judge : Judge) (met : Outcome) (old new : Exporter) (takes : Bool) : Type 0 where
  pub known : asks judge met ≡ false → (new ≡ old) × (takes ≡ judge.has_taken)
  pub asked : asks judge met ≡ true → (answer : Outcome) × attempts old [] answer new
      × (takes ≡ is_taken answer)

-- The exporter below attempted the body, and the outcome is what that comes to by what is known of
-- the collector.
pub record IsGuardedAttempt {Exporter : Type 0}
    (attempts : Exporter → List ℕ → Outcome → Exporter → Type 0)
    (reported : Exporter → Option Failure)
    (body : List ℕ) (old new : Guarding Exporter) (outcome : Outcome) : Type 0 where
  pub met : Outcome
  pub spent : Exporter
  pub attempted : attempts old.exporter body met spent
  pub takes : Bool
  pub takes_others : TakesOthers attempts old.judge met spent new.exporter takes
  pub judge_is : new.judge ≡ judge_after old.judge met takes
  pub failure_is : new.failure ≡ reported spent
  pub now : ℕ
  pub outcome_is : outcome ≡ in_seconds now (judged old.judge met takes)
