-- What a sink of names of lost spans was given. (profile)
use Rattle.std.specs.Prelude.{◌≡◌, ℕ, List, ◌++◌, Option, option_map}
use Rattle.model_desk.specs.Retries.{Fate}
use Rattle.model_body.specs.Names.{LostSpan}

-- the name of a span that is lost by this fate
abbrev pub lost_span : List ℕ → List ℕ → Fate → LostSpan
lost_span trace span fate = record { trace = trace; span = span; fate = fate }

-- A sink that says which names it was given has, after those that it had, exactly these. Another
-- says nothing.
abbrev pub Gains : List LostSpan → Option (List LostSpan) → Option (List LostSpan) → Type 0
Gains more old new = new ≡ option_map (λ had. had ++ more) old
