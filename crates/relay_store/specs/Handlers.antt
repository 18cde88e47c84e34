-- What those who share what is kept come to, call by call, by their accounts. (profile)
use Rattle.std.specs.Prelude.{◌≡◌, ◌≢◌, ◌⊎◌, ℕ, true, false, List, []}
use Rattle.std.specs.Prelude.{Option, Some, None, ◌+◌}
use Rattle.model_desk.specs.Retries.{Next, Outcome, abandoned}
use Rattle.model_body.specs.Names.{LostSpan, lost_names}
use Rattle.relay_queue.specs.Named as named
use Rattle.model_body.specs.Histories.{is_out, again, joined}
use Rattle.span_exporter.specs.Handed.{Handed, Gains, handing}
use Rattle.retry_core.specs.Retries.{outcome_view}
use Rattle.relay_queue.specs.Senders.{Sender, to_send, to_judge, has_batch, is_pending}
use Rattle.relay_queue.specs.Senders.{capped_32, forgotten, names_after}
use Rattle.relay_queue.specs.Steps.{IsJudged, next_number, attempts_before}
use Rattle.relay_queue.specs.Senders.{early_at}
use Rattle.relay_store.specs.declared.sender.Tried.{Tried}
use Rattle.relay_store.specs.declared.sender.Tried.TheVariants as tried
use Rattle.relay_store.specs.Accounts.{Said, Sent, sends, closes, sent_in, taken_from}
use Rattle.relay_store.specs.Accounts.{read_from, noted_from, freed_from, returned_from}
use Rattle.relay_store.specs.Accounts.{ended_after, after_closing}

-- What sends the bodies of a relay: how far its last batch is, and what its account says.
pub record Handler : Type 0 where
  pub sender : Sender
  pub sent : Sent

-- What a sender has in hand is the batch that is out, by its account.
pub record IsHandler (sender : Sender) (said : Said) : Type 0 where
  pub is_sends : said ≡ sends (sent_in said)
  pub out : has_batch sender.stage ≡ true → (sent_in said).turn ≡ is_out
  pub body : has_batch sender.stage ≡ true → sender.body ≡ joined (sent_in said).batch
  pub free : has_batch sender.stage ≡ false → (sent_in said).turn ≢ is_out

-- ---- batches

-- These bodies were read from the spool, or none.
pub record Reads (said said' : Said) : Type 0 where
  pub bodies : List (List ℕ)
  pub said_is : said' ≡ sends (read_from bodies (sent_in said))

-- A sender took a batch, which has the bytes of these bodies; one that is sent again has the same
-- bodies.
pub record TakesBatch (old : Sender) (said : Said) (new : Sender) (said' : Said) : Type 0 where
  pub batch : List (List ℕ)
  pub repeats : (sent_in said).turn ≡ again → batch ≡ (sent_in said).batch
  pub said_is : said' ≡ sends (taken_from batch (sent_in said))
  pub sender : new ≡ record old {
    body = joined batch;
    number = next_number (sent_in said).turn old.number;
    attempts = attempts_before (sent_in said).turn old.attempts;
    stage = to_send;
  }

-- A sender read bodies, or none, and took a batch.
pub record ReadsAndTakes (old new : Handler) : Type 0 where
  pub read : Sent
  pub reads : Reads (sends old.sent) (sends read)
  pub takes : TakesBatch old.sender (sends read) new.sender (sends new.sent)

-- A sender read bodies, or none, and took none.
pub record OnlyReads (old new : Handler) : Type 0 where
  pub sender : new.sender ≡ old.sender
  pub reads : Reads (sends old.sent) (sends new.sent)

-- ---- attempts

-- An attempt of the batch in hand was made: the exporter was handed just the bytes of its bodies.
-- (Trace SDK, Export)
pub record SendsInHand (outcome : Outcome) (old new : Handler) (had has : Option (List Handed))
    : Type 0 where
  pub handed : Gains
      (handing old.sender.number new.sender.attempts (joined old.sent.batch) outcome) had has
  pub sent : new.sent ≡ old.sent
  pub sender : new.sender ≡ record old.sender {
    attempts = capped_32 (old.sender.attempts + 1);
    stage = to_judge outcome;
  }

-- What an attempt of the batch in hand comes to, by its answer.
abbrev pub Attempted : Tried → Handler → Handler → Option (List Handed) → Option (List Handed)
    → Type 0
Attempted (tried.Came outcome) old new had has = SendsInHand (outcome_view outcome) old new had has
Attempted tried.OutOfMemory old new had has = (new ≡ old) × (has ≡ had)
Attempted tried.Nothing old new had has = ⊥
Attempted (tried.Failed error) old new had has = ⊥
Attempted (tried.Early moment) old new had has = ⊥
Attempted tried.Unjudged old new had has = ⊥
Attempted tried.Unnamed old new had has = ⊥

-- It has a batch in hand: the one that it had, or one that it took.
pub record HasBatch (old batch : Handler) : Type 0 where
  pub had : has_batch old.sender.stage ≡ true → batch ≡ old
  pub took : has_batch old.sender.stage ≡ false → ReadsAndTakes old batch

-- An attempt was made, not before its moment and not before the last outcome was judged: the
-- exporter was handed just the bytes of the bodies of the batch that is out. (Trace SDK, Export;
-- OTLP Specification, OTLP/HTTP Throttling)
pub record SendsBatch (now : ℕ) (outcome : Outcome) (old new : Handler)
    (had has : Option (List Handed)) : Type 0 where
  pub judged : is_pending old.sender.stage ≡ false
  pub due : early_at now old.sender.stage ≡ None
  pub batch : Handler
  pub in_hand : HasBatch old batch
  pub sends_it : SendsInHand outcome batch new had has

-- What a call for the next attempt comes to, by its answer.
abbrev pub Tries : ℕ → Tried → Handler → Handler → Option (List Handed) → Option (List Handed)
    → Type 0
Tries now (tried.Came outcome) old new had has =
    SendsBatch now (outcome_view outcome) old new had has
Tries now tried.Nothing old new had has = OnlyReads old new × (has ≡ had)
Tries now tried.OutOfMemory old new had has =
    ((new ≡ old) ⊎ (OnlyReads old new ⊎ ReadsAndTakes old new)) × (has ≡ had)
Tries now (tried.Failed error) old new had has = OnlyReads old new × (has ≡ had)
Tries now (tried.Early moment) old new had has =
    (early_at now old.sender.stage ≡ Some moment) × (new ≡ old) × (has ≡ had)
Tries now tried.Unjudged old new had has =
    (is_pending old.sender.stage ≡ true) × (new ≡ old) × (has ≡ had)
Tries now tried.Unnamed old new had has = (new ≡ old) × (has ≡ had)

-- ---- outcomes

-- What follows was noted of the batch that was sent, whose bodies ended by it, if they did.
pub record NotesBatch (next : Next) (ended : List (List ℕ)) (said said' : Said) : Type 0 where
  pub ended_are : ended ≡ ended_after next (sent_in said).batch
  pub said_is : said' ≡ sends (noted_from next (sent_in said))

-- Nothing was noted, and no body ended.
pub record NotesNothing (ended : List (List ℕ)) (said said' : Said) : Type 0 where
  pub none : ended ≡ []
  pub said_is : said' ≡ sends (freed_from (sent_in said))

-- What follows was noted of the batch that was sent; or nothing was, where all bodies were given up
-- meanwhile.
abbrev pub IsNoted : Next → List (List ℕ) → Said → Said → Type 0
IsNoted next ended said said' = NotesBatch next ended said said' ⊎ NotesNothing ended said said'

-- The outcome of the last attempt was judged, what follows was noted of the batch that was sent,
-- and the names of the spans of its bodies that are lost by it were given.
pub record Finishes (now word : ℕ) (old : Handler) (next : Next) (new : Handler)
    (had has : Option (List LostSpan)) : Type 0 where
  pub judged : IsJudged now word old.sender next new.sender
  pub ended : List (List ℕ)
  pub noted : IsNoted next ended (sends old.sent) (sends new.sent)
  pub names : named.Gains (names_after next ended) had has

-- ---- the spool

-- The spool was given back: what the desk had went back to it, to be read again, and the batch in
-- hand was forgotten.
pub record IsRestored (old : Sender) (said : Said) (new : Sender) (said' : Said) : Type 0 where
  pub bodies : List (List ℕ)
  pub sender : new ≡ forgotten old
  pub said_is : said' ≡ sends (returned_from bodies (sent_in said))

-- A spool was given back, or there was none, and nothing was changed.
abbrev pub Restores : Sender → Said → Sender → Said → Type 0
Restores old said new said' = ((new ≡ old) × (said' ≡ said)) ⊎ IsRestored old said new said'

-- ---- the end

-- These bodies were given up; none, with a spool.
abbrev pub GaveUp : List (List ℕ) → Said → Said → Type 0
GaveUp bodies said said' =
    ((bodies ≡ []) × (said' ≡ said)) ⊎ (said' ≡ after_closing bodies said)

-- The same, and the names of their spans were given.
pub record GivesUp (old new : Option (List (List ℕ))) (had has : Option (List LostSpan))
    : Type 0 where
  pub bodies : List (List ℕ)
  pub gave : GaveUp bodies (closes old) (closes new)
  pub names : named.Gains (lost_names abandoned bodies) had has
