-- What follows from an attempt that isn't the last one.
use Rattle.std.proofs.Common.{◌≡◌, ◌≢◌, sym, ◌∙◌, ℕ, ◌+◌, ◌-◌, ◌≤◌, min, Bool, true, false}
use Rattle.std.proofs.Common.{arith, lt-ltb}
use Rattle.std.specs.Prelude.{nat_le, nat_lt, ◌||◌, Option, if◌then◌else◌}
use Rattle.std.specs.Option.{option_map_or}
use Rattle.std.proofs.lemmas.Bool.{lt-leb}
use Rattle.model_desk.specs.Retries.{RetryAfter, Outcome, Next, later, no_reply, bad, again}
use Rattle.model_desk.specs.Retries.{give_up, attempts, next_of}
use Rattle.model_desk.specs.Waits.{greatest_moment, retried, wait_ns}
use Rattle.relay_queue.specs.Senders.{SendConfig, HasNoLast, GoesOn, is_last, is_spent, next_by}

not-last : (outcome : Outcome) (wait : Option RetryAfter → ℕ)
    → option_map_or (λ after. again (wait after)) (retried outcome) (next_of outcome)
    ≢ give_up attempts
not-last Outcome.delivered wait e = cc
not-last (Outcome.partial rejected) wait e = cc
not-last (later status after) wait e = cc
not-last (Outcome.refused status) wait e = cc
not-last no_reply wait e = cc
not-last bad wait e = cc

-- what follows where this says whether it is the last one, and whether others are allowed
abbrev next_where : Bool → Bool → Outcome → (Option RetryAfter → ℕ) → Next
next_where last more outcome wait =
    if last then next_of outcome
    else (if more
    then option_map_or (λ after. again (wait after)) (retried outcome) (next_of outcome)
    else next_of outcome)

no-last : (config : SendConfig) (made : ℕ) → HasNoLast config → is_last config made ≡ false
no-last config made h =
    (λ i. nat_le config.retry.attempts 1 || is_spent (h.unset i) made)
    ∙ several (nat_le config.retry.attempts 1) (few config.retry.attempts h.several)
  where
    few : (n : ℕ) → 2 ≤ n → nat_le n 1 ≡ false
    few n some = lt-leb n 1 some

    several : (b : Bool) → b ≡ false → (b || false) ≡ false
    several false e = e
    several true e = e

-- Where no attempt is the last one, none is followed by that a batch is given up for their number.
pub goes_on : (config : SendConfig) (made now word : ℕ) (outcome : Outcome) (next : Next)
    → next ≡ next_by config made outcome now word → GoesOn config next
goes_on config made now word outcome next e h same =
    let retry = config.retry in
    let attempt : ℕ = min made (retry.attempts - 1) in
    let wait : Option RetryAfter → ℕ =
    λ after. min (now + wait_ns retry attempt after now word) greatest_moment in
    let more : nat_lt attempt retry.attempts ≡ true =
    lt-ltb attempt retry.attempts (omega (arith, h.several)) in
    not-last outcome wait
    (sym ((λ i. next_where (no-last config made h i) (more i) outcome wait)) ∙ sym e ∙ same)
