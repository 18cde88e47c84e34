-- What the accounts of a relay say, and how that changes: one of what was kept, one of what was
-- sent, and one of what is given up in the end. (profile)
use Rattle.std.specs.Prelude.{ℕ, List, [], ◌++◌, map, take, length, if◌then◌else◌}
use Rattle.std.specs.Prelude.{Option, Some, None}
use Rattle.model_desk.specs.Retries.{Fate, Next, fate_of}
use Rattle.model_body.specs.Histories.{Turn, idle, is_out, again, is_split}
use Rattle.model_body.specs.Desks.{BodyDesk}

-- What a sender knows: the bodies that waited in the spool at the start; where its last batch is,
-- and the bodies of that while it is out or is to be sent again; the bodies that were read from the
-- spool to be sent; those that ended, each with how; and those that went back to the spool where it
-- was opened again, once for each time.
pub record Sent : Type 0 where
  pub at_start : List (List ℕ)
  pub turn : Turn
  pub batch : List (List ℕ)
  pub read : List (List ℕ)
  pub ended : List (List ℕ × Fate)
  pub returned : List (List ℕ)

-- What an account says: the bodies that were kept through it, in order; or what the sender knows;
-- or the bodies that were given up, if that was done.
pub data Said : Type 0 where
  posts : List (List ℕ) → Said
  sends : Sent → Said
  closes : Option (List (List ℕ)) → Said

-- what a sender knows that did nothing
abbrev pub new_sent : Sent
new_sent = record {
  at_start = [];
  turn = idle;
  batch = [];
  read = [];
  ended = [];
  returned = [];
}

-- the bodies of an account of these
abbrev pub posted_in : Said → List (List ℕ)
posted_in (posts bodies) = bodies
posted_in (sends sent) = []
posted_in (closes bodies) = []

-- what the sender knows, of its account
abbrev pub sent_in : Said → Sent
sent_in (posts bodies) = new_sent
sent_in (sends sent) = sent
sent_in (closes bodies) = new_sent

-- the bodies that were given up, if that was done, of an account of these
abbrev pub closed_in : Said → Option (List (List ℕ))
closed_in (posts bodies) = None
closed_in (sends sent) = None
closed_in (closes bodies) = bodies

-- ---- changes

-- Bodies were kept.
abbrev pub after_posts : List (List ℕ) → Said → Said
after_posts bodies said = posts (posted_in said ++ bodies)

-- At the start these bodies waited in the spool.
abbrev pub started_with : List (List ℕ) → Sent → Sent
started_with bodies sent = record sent { at_start = bodies }

-- the bodies of the batch that was taken last from this desk
abbrev pub last_batch : BodyDesk → List (List ℕ)
last_batch desk = take desk.size desk.kept

-- A batch of these bodies was taken.
abbrev pub taken_from : List (List ℕ) → Sent → Sent
taken_from batch sent = record sent { turn = is_out; batch = batch }

-- These bodies were read from the spool.
abbrev pub read_from : List (List ℕ) → Sent → Sent
read_from bodies sent = record sent { read = sent.read ++ bodies }

-- The bodies of a batch that end by this fate: none where it is split, and each is to be sent
-- alone. (OTLP Specification, OTLP/HTTP Response)
abbrev pub ended_bodies : Fate → List (List ℕ) → List (List ℕ)
ended_bodies fate batch = if is_split fate (length batch) then [] else batch

-- What follows was noted: the batch that is out is to be sent again, or ended so.
abbrev pub noted_by : Option Fate → Sent → Sent
noted_by None sent = record sent { turn = again }
noted_by (Some fate) sent = record sent {
  turn = idle;
  batch = [];
  ended = sent.ended ++ map (λ body. (body, fate)) (ended_bodies fate sent.batch);
}

-- The same of what follows from an outcome.
abbrev pub noted_from : Next → Sent → Sent
noted_from next sent = noted_by (fate_of next) sent

-- The batch that is out is no longer known, and nothing is noted of it.
abbrev pub freed_from : Sent → Sent
freed_from sent = record sent { turn = idle; batch = [] }

-- The spool was opened again: these bodies, all that the desk had, are to be read again.
abbrev pub returned_from : List (List ℕ) → Sent → Sent
returned_from bodies sent =
    record sent { turn = idle; batch = []; returned = sent.returned ++ bodies }

-- the bodies that were given up, or none
abbrev pub given_up : Option (List (List ℕ)) → List (List ℕ)
given_up None = []
given_up (Some bodies) = bodies

-- Bodies were given up, after those that were.
abbrev pub after_closing : List (List ℕ) → Said → Said
after_closing bodies said = closes (Some (given_up (closed_in said) ++ bodies))

-- the bodies of a batch that end as this follows
abbrev pub ended_by : Option Fate → List (List ℕ) → List (List ℕ)
ended_by None batch = []
ended_by (Some fate) batch = ended_bodies fate batch

-- the same of what follows from an outcome
abbrev pub ended_after : Next → List (List ℕ) → List (List ℕ)
ended_after next batch = ended_by (fate_of next) batch
