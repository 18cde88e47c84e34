-- What a sender of bodies does at a desk and at an exporter. (OTLP Specification, OTLP/HTTP
-- Response)
use Rattle.std.specs.Prelude.{◌≡◌, ◌≢◌, ℕ, ◌+◌, ◌-◌, Bool, true, false, List, []}
use Rattle.std.specs.Prelude.{if◌then◌else◌}
use Rattle.std.specs.Prelude.{length, take, Option, None, Some}
use Rattle.model_desk.specs.Retries.{Fate, Next, Outcome, fate_of}
use Rattle.model_body.specs.Histories.{Turn, idle, is_out, again, joined, ended_count}
use Rattle.model_body.specs.Histories as events
use Rattle.model_body.specs.Desks.{BodyDesk, Does, after_settled}
use Rattle.relay_queue.specs.Bodies.{MayTake}
use Rattle.span_exporter.specs.Handed.{Handed, Gains, handing}
use Rattle.relay_queue.specs.Senders.{Sender, to_send, to_judge}
use Rattle.relay_queue.specs.Senders.{next_by, stage_by, capped_32, capped_64, GoesOn}

-- whether the next batch is the last one, which is sent again
abbrev pub is_again : Turn → Bool
is_again again = true
is_again idle = false
is_again is_out = false

-- The number of the next batch, and how many attempts it had: one that is sent again keeps both.
-- (profile)
abbrev pub next_number : Turn → ℕ → ℕ
next_number turn number = if is_again turn then number else capped_64 (number + 1)

abbrev pub attempts_before : Turn → ℕ → ℕ
attempts_before turn made = if is_again turn then made else 0

-- A sender takes the next batch of a desk, and has its bytes; of one that is sent again, these are
-- the bytes that it had before. (profile)
pub record Takes (old : Sender) (desk : BodyDesk) (new : Sender) (desk' : BodyDesk) : Type 0 where
  pub count : ℕ
  pub may : MayTake desk count
  pub body : new.body ≡ joined (take count desk.kept)
  pub repeats : desk.turn ≡ again → new.body ≡ joined (take desk.size desk.kept)
  pub sender : new ≡ record old {
    body = new.body;
    number = next_number desk.turn old.number;
    attempts = attempts_before desk.turn old.attempts;
    stage = to_send;
  }
  pub desk_is : desk' ≡ record desk { turn = is_out; size = count }
  pub history : Does (events.taken count) desk desk'

-- An attempt was made, with this outcome: the exporter was handed just the bytes of the batch, and
-- the outcome is to be judged. (Trace SDK, Export)
pub record Attempts (outcome : Outcome) (old new : Sender) (had has : Option (List Handed))
    : Type 0 where
  pub handed : Gains (handing old.number new.attempts old.body outcome) had has
  pub sender : new ≡ record old {
    attempts = capped_32 (old.attempts + 1);
    stage = to_judge outcome;
  }

-- ---- what is noted

-- What is noted of the batch that is out, by how it ends, if it does; and these bodies end.
abbrev pub NotesFate : Option Fate → List (List ℕ) → BodyDesk → BodyDesk → Type 0
NotesFate None ended old new =
    (ended ≡ []) × (new ≡ record old { turn = again }) × Does events.later old new
NotesFate (Some fate) ended old new =
    (ended ≡ take (ended_count fate old.size) old.kept) × (new ≡ after_settled fate old)
    × Does (events.settled fate) old new

-- What is noted at a desk by what follows from an attempt: where a batch is out, that it is sent
-- again, or ends so, and these bodies end with it; else nothing. (OTLP Specification, OTLP/HTTP
-- Response)
pub record Notes (next : Next) (ended : List (List ℕ)) (old new : BodyDesk) : Type 0 where
  pub out : old.turn ≡ is_out → NotesFate (fate_of next) ended old new
  pub none : old.turn ≢ is_out → (ended ≡ []) × (new ≡ old)

-- The outcome of the last attempt was judged at this moment, with this random word. (OTLP
-- Specification, OTLP/HTTP Response, OTLP/HTTP Throttling)
pub record IsJudged (now word : ℕ) (old : Sender) (next : Next) (new : Sender) : Type 0 where
  pub outcome : Outcome
  pub pending : old.stage ≡ to_judge outcome
  pub next_is : next ≡ next_by old.config old.attempts outcome now word
  pub goes_on : GoesOn old.config next
  pub sender : new ≡ record old { body = []; stage = stage_by next }

-- All bodies that are kept are given up. (profile)
pub record Abandons (old new : BodyDesk) : Type 0 where
  pub desk_is : new ≡ record old {
    kept = [];
    turn = idle;
    alone = old.alone - length old.kept;
    lost = old.lost + length old.kept;
  }
  pub history : Does (events.drained (length old.kept)) old new
