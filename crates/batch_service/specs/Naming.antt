-- A pass whose thread gives names to a sink of its own. (names: profile)
use Rattle.std.specs.Prelude.{◌≡◌, ℕ, ◌+◌, Bool, true, false, List, Option, ◌&&◌, not, nat_lt}
use Rattle.std.specs.Prelude.{if◌then◌else◌}
use Rattle.model_span.specs.Dropped.{Entry}
use Rattle.model_span.specs.Spans.{SpanData}
use Rattle.trace_api.specs.declared.pass.Ended.{Ended}
use Rattle.trace_api.specs.declared.pass.Ended.TheVariants as answers
use Rattle.drop_ledger.specs.Named.{Named}
use Rattle.batch_service.specs.Working.{GainsNames}
use Rattle.batch_service.specs.declared.naming.NamingPass.{NamingPass}
use Rattle.batch_service.specs.declared.naming.TheConstants.{NAMED_TOGETHER}

-- what a naming pass has: the pass and the sink, and how many spans were dropped on it since it
-- last gave names
pub record NamingState (P S : Type 0) : Type 0 where
  pub pass : P
  pub sink : S
  pub unnamed : ℕ

-- the same, of the pass
abbrev pub naming : {P S : Type 0} → NamingPass P S → NamingState P S
naming n = record { pass = n.pass.now; sink = n.sink; unnamed = n.unnamed }

-- the span was dropped
abbrev pub is_dropped : Ended → Bool
is_dropped (answers.Queued ticket) = false
is_dropped (answers.Handed ticket) = false
is_dropped (answers.Dropped ticket reason) = true
is_dropped answers.Late = false
is_dropped answers.NotSampled = false
is_dropped answers.AlreadyEnded = false

-- how many were dropped, with a span that has this answer
abbrev pub with_answer : ℕ → Ended → ℕ
with_answer unnamed answer = if is_dropped answer then unnamed + 1 else unnamed

-- it is time for names
abbrev pub is_time : ℕ → Ended → Bool
is_time unnamed answer = is_dropped answer && not (nat_lt (unnamed + 1) NAMED_TOGETHER)

-- All names were taken by a pass, and given to the sink.
pub record NamesAll {P S : Type 0} (drains : List Entry → List Entry → P → P → Type 0)
    (told : S → Option Named) (pass : P) (sink : S) (new : NamingState P S) : Type 0 where
  pub names : Named
  pub taken : drains names.dropped names.lost pass new.pass
  pub given : GainsNames names (told sink) (told new.sink)

-- A span ended on the pass. Where `NAMED_TOGETHER` spans were dropped since names were last given,
-- all names are given then.
pub record EndsAndNames {P S : Type 0} (admits : P → SpanData → Ended → P → Type 0)
    (drains : List Entry → List Entry → P → P → Type 0) (told : S → Option Named)
    (old : NamingState P S) (span : SpanData) (answer : Ended) (new : NamingState P S)
    : Type 0 where
  pub left : P
  pub admitted : admits old.pass span answer left
  pub waits : is_time old.unnamed answer ≡ false → new
      ≡ record { pass = left; sink = old.sink; unnamed = with_answer old.unnamed answer }
  pub names : is_time old.unnamed answer ≡ true
      → NamesAll drains told left old.sink new × (new.unnamed ≡ 0)
