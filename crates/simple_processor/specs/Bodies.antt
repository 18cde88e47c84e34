-- What a simple processor hands to its exporter: each span alone, once. (Trace SDK, Simple
-- processor; number and attempt: profile)
use Rattle.std.specs.Prelude.{ℕ, ◌+◌, ◌≤◌, ◌≡◌, List, [], ◌∷◌, drop, length, map, filter_map}
use Rattle.std.specs.Prelude.{flat_map, IsPermutation, Option, Some}
use Rattle.model_message.specs.Reading.{Reading, done}
use Rattle.model_message.specs.Messages.{Triple, body_meaning}
use Rattle.model_span.specs.Spans.{SpanData}
use Rattle.model_export.specs.Export.{LacksBody, grouped_triples}
use Rattle.model_span.specs.Dropped.{Entry}
use Rattle.model_desk.specs.Retries.{Fate, Outcome, fate_of, next_of}
use Rattle.model_desk.specs.Queue.{lost_as}
use Rattle.span_exporter.specs.Handed.{Handed}
use Rattle.model_processor.specs.Passes.{Drop}
use Rattle.model_processor.specs.PassClauses.{NamesLosses}

-- An attempt, as OTLP reads it: its number, which attempt it is, and the meaning of its body.
pub record Attempt : Type 0 where
  pub number : ℕ
  pub attempt : ℕ
  pub meaning : Reading (List Triple)

-- The one attempt of a span: under its ticket and 1, the first, with a body that means this span.
abbrev pub attempt_of_span : SpanData → Attempt
attempt_of_span span = record {
  number = span.ticket + 1;
  attempt = 1;
  meaning = done (grouped_triples (span ∷ []));
}

-- what an exporter shows, so read
abbrev pub attempt_in : Handed → Attempt
attempt_in h = record { number = h.number; attempt = h.attempt; meaning = body_meaning h.body }

-- its body is no longer than it may be
abbrev pub Fits : ℕ → Handed → Type 0
Fits max_body h = length h.body ≤ max_body

-- A span was dropped since it has no body alone, or a longer one than it may have.
abbrev pub LacksItsBody : ℕ → Drop → Type 0
LacksItsBody max_body d = LacksBody max_body (d.span ∷ []) d.reason

-- How the attempts ended, each the only one of its body. (OTLP Specification, OTLP/HTTP Response)
abbrev pub fates_of : List Handed → List Fate
fates_of bodies = filter_map (λ (h : Handed). fate_of (next_of h.outcome)) bodies

-- A span that was handed, and the outcome of its one attempt.
pub record Handing : Type 0 where
  pub span : SpanData
  pub outcome : Outcome

-- its entry, with its fate's reason, if it is lost
abbrev pub lost_by_attempt : Handing → List Entry
lost_by_attempt x = lost_as (fate_of (next_of x.outcome)) (x.span ∷ [])

-- the entries of those that are lost
abbrev pub losses_of : List Handing → List Entry
losses_of handings = flat_map lost_by_attempt handings

-- These were handed one by one: the bodies mean their spans, and had their outcomes.
pub record AreTold (handings : List Handing) (bodies : List Handed) : Type 0 where
  pub attempts : map (λ (x : Handing). attempt_of_span x.span) handings ≡ map attempt_in bodies
  pub outcomes : map (λ (x : Handing). x.outcome) handings
      ≡ map (λ (h : Handed). h.outcome) bodies

-- Each accepted span was handed, in a body of its own. Those whose attempt failed are named, each
-- for its fate's reason, and counted.
pub record LossesAreTold (bodies : List Handed) (accepted : List SpanData) (lost : List Entry)
    (count : ℕ) (popped : List Entry) : Type 0 where
  pub handings : List Handing
  pub spans : IsPermutation accepted (map (λ (x : Handing). x.span) handings)
  pub told : AreTold handings bodies
  pub names : NamesLosses lost count (losses_of handings) popped

-- what an exporter shows that it was handed since then; of one that shows nothing, nothing
abbrev pub told_since : Option (List Handed) → Option (List Handed) → List Handed
told_since (Some had) (Some all) = drop (length had) all
told_since _ _ = []
