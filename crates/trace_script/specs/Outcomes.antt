-- What comes of an attempt to send a batch, as words. (OTLP Specification, OTLP/HTTP Response)
use Rattle.std.specs.Prelude.{ℕ, ◌^◌, List, [], ◌∷◌, if◌then◌else◌, Option, Some, None, option_map}
use Rattle.std.specs.Prelude.{bytes_eq, codes}
use Rattle.model_desk.specs.Retries.{Outcome, RetryAfter, later, no_reply, seconds}
use Rattle.text_words.specs.Words.{◌>>=◌, number_below, signed_number}

-- an outcome that has no number
unfoldable pub plain_outcome_of : List ℕ → Option Outcome
plain_outcome_of name =
    if bytes_eq name (codes "delivered") then Some Outcome.delivered
    else if bytes_eq name (codes "none") then Some no_reply
    else if bytes_eq name (codes "bad") then Some Outcome.bad
    else None

-- one that has: how many spans were rejected, or the HTTP status
unfoldable pub numbered_outcome_of : List ℕ → List ℕ → Option Outcome
numbered_outcome_of name number =
    if bytes_eq name (codes "partial") then option_map Outcome.partial (signed_number number)
    else if bytes_eq name (codes "refused") then
    option_map Outcome.refused (number_below (2 ^ 16) number)
    else None

-- when another attempt is welcome: `none`, where nothing is asked for, or in this many seconds
unfoldable pub wait_of_word : List ℕ → Option (Option RetryAfter)
wait_of_word word =
    if bytes_eq word (codes "none") then Some None
    else option_map (λ n. Some (seconds n)) (number_below (2 ^ 64) word)

-- one that is to be tried again: the HTTP status, and when
unfoldable pub later_of : List ℕ → List ℕ → Option Outcome
later_of status wait =
    number_below (2 ^ 16) status >>= λ n. option_map (later n) (wait_of_word wait)

unfoldable pub later_outcome_of : List ℕ → List ℕ → List ℕ → Option Outcome
later_outcome_of name status wait =
    if bytes_eq name (codes "later") then later_of status wait else None

-- `delivered`, `partial N`, `later STATUS SECONDS`, `later STATUS none`, `refused STATUS`, `none`
-- or `bad`
unfoldable pub outcome_of_words : List (List ℕ) → Option Outcome
outcome_of_words (name ∷ []) = plain_outcome_of name
outcome_of_words (name ∷ number ∷ []) = numbered_outcome_of name number
outcome_of_words (name ∷ status ∷ wait ∷ []) = later_outcome_of name status wait
outcome_of_words _ = None
