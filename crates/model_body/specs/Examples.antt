-- Bodies and histories of the worked values.
use Rattle.std.specs.Prelude.{ℕ, List, [], ◌∷◌, ◌++◌}
use Rattle.std.specs.Str.{is_utf8, chars}
use lib.Utf8.{encode}
use Rattle.model_message.specs.Wire.{septets}
use Rattle.model_message.specs.Messages.{meaning}
use Rattle.model_desk.specs.Retries.{Fate}
use Rattle.model_body.specs.Names.{LostSpan, names_in, spans_in}
use Rattle.model_body.specs.Histories.{BodyEvent, admitted, taken, later, settled, drained}

-- a request of one span, of trace 1 and span 2
abbrev pub first : List ℕ
first = 10 ∷ 10 ∷ 18 ∷ 8 ∷ 18 ∷ 6 ∷ 10 ∷ 1 ∷ 1 ∷ 18 ∷ 1 ∷ 2 ∷ []

-- a request of one span, of trace 3 and span 4
abbrev pub second : List ℕ
second = 10 ∷ 10 ∷ 18 ∷ 8 ∷ 18 ∷ 6 ∷ 10 ∷ 1 ∷ 3 ∷ 18 ∷ 1 ∷ 4 ∷ []

-- a request of a resource without spans
abbrev pub without_spans : List ℕ
without_spans = 10 ∷ 0 ∷ []

-- the names of the spans of a body that is lost by this fate, computed
unfoldable pub named : Fate → List ℕ → List LostSpan
unfolding spans_in meaning septets is_utf8 chars encode
named fate body = names_in fate body

-- Three bodies are admitted; two are sent, and sent again, where another was admitted meanwhile;
-- they are refused.
abbrev pub tried : List BodyEvent
tried =
    admitted (1 ∷ 2 ∷ []) ∷ admitted (3 ∷ []) ∷ admitted (4 ∷ []) ∷ taken 2 ∷ later ∷
    admitted (5 ∷ []) ∷ taken 2 ∷ settled (Fate.refused 400) ∷ []

-- Then each is sent alone: the first is refused again, and the second is delivered.
abbrev pub spoiled : List BodyEvent
spoiled =
    tried ++ taken 1 ∷ settled (Fate.refused 400) ∷ taken 1 ∷ settled Fate.delivered ∷ []

-- Then the others are sent together, and are given up at the end.
abbrev pub ended : List BodyEvent
ended = spoiled ++ taken 2 ∷ later ∷ drained 2 ∷ []
