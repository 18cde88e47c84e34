-- Another attempt.
use Rattle.std.proofs.Common.{◌≡◌, refl, ℕ, ◌+◌, ◌<◌, nat_lt, min, Bool, true, false}
use Rattle.std.specs.Prelude.{if◌then◌else◌}
use Rattle.std.specs.Option.{option_map_or}
use Rattle.std.proofs.lemmas.Bool.{ltb-true}
use Rattle.model_desk.specs.Retries.{Outcome, again, next_of}
use Rattle.model_desk.specs.Waits.{RetryConfig, retried, next_after, wait_ns, greatest_moment}

never-again : (outcome : Outcome) (moment : ℕ) → next_of outcome ≡ again moment → ⊥
never-again Outcome.delivered moment e = cc
never-again (Outcome.partial rejected) moment e = cc
never-again (Outcome.later status after) moment e = cc
never-again (Outcome.refused status) moment e = cc
never-again Outcome.no_reply moment e = cc
never-again Outcome.bad moment e = cc

-- Another attempt follows only where there are attempts left.
pub again-few : (config : RetryConfig) (attempt : ℕ) (outcome : Outcome) (now word moment : ℕ)
    → next_after config attempt outcome now word ≡ again moment → attempt < config.attempts
again-few config attempt outcome now word moment e = by (nat_lt attempt config.attempts) refl e
  where
    by : (b : Bool) → nat_lt attempt config.attempts ≡ b
        → (if b
        then option_map_or
        (λ after. again (min (now + wait_ns config attempt after now word) greatest_moment))
        (retried outcome) (next_of outcome)
        else next_of outcome)
        ≡ again moment
        → attempt < config.attempts
    by true k e = ltb-true attempt config.attempts k
    by false k e = absurd (never-again outcome moment e)
