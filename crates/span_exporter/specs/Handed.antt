-- What an exporter was handed. (Trace SDK, Span Exporter; numbers of batches and attempts: profile)
use Rattle.std.specs.Prelude.{◌≡◌, ℕ, List, [], ◌∷◌, ◌++◌, Option, option_map}
use Rattle.model_desk.specs.Retries.{Outcome}

-- An attempt to send a batch: the batch's number, which attempt of it this is, from 1 on, the body,
-- and its outcome. (Trace SDK, Export)
pub record Handed : Type 0 where
  pub number : ℕ
  pub attempt : ℕ
  pub body : List ℕ
  pub outcome : Outcome

-- just this attempt
abbrev pub handing : ℕ → ℕ → List ℕ → Outcome → List Handed
handing number attempt body outcome =
    record { number = number; attempt = attempt; body = body; outcome = outcome } ∷ []

-- An exporter that shows what it was handed has, after what it had, exactly these. Another shows
-- nothing. (profile)
abbrev pub Gains : List Handed → Option (List Handed) → Option (List Handed) → Type 0
Gains more old new = new ≡ option_map (λ had. had ++ more) old
