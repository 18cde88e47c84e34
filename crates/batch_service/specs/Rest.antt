-- What becomes of what is left in a queue that no worker works on any more. (profile)
use Rattle.std.specs.Prelude.{◌≡◌, ◌+◌, List, [], ◌++◌, length, map, reverse, Option, None}
use Rattle.model_span.specs.Spans.{SpanData}
use Rattle.model_span.specs.Dropped.{Reason, entry_of}
use Rattle.model_desk.specs.Desks.{Desk, with_drops}
use Rattle.drop_ledger.specs.Named.{Named}
use Rattle.batch_service.specs.Working.{GainsNames, both_names}

-- Of the spans that waited these are dropped as abandoned, and the ledger has their names, the
-- newest first. No count changes but that of abandoned spans, and that of those that were taken.
pub record Abandons (spans : List SpanData) (old new : Desk) : Type 0 where
  pub waited : old.waiting ≡ spans ++ new.waiting
  pub ledger : new.ledger ≡ reverse (map (entry_of Reason.abandoned) spans) ++ old.ledger
  pub dropped : new.dropped ≡ with_drops Reason.abandoned (length spans) old.dropped
  pub taken : new.taken ≡ old.taken + length spans
  pub others : new ≡ record old {
    waiting = new.waiting;
    out = None;
    ledger = new.ledger;
    dropped = new.dropped;
    taken = new.taken;
    batches = new.batches;
    asked = new.asked;
    closed = new.closed;
    last_moment = new.last_moment;
  }

-- All that waited are abandoned, and none waits any more.
pub record AbandonsWaiting (old new : Desk) : Type 0 where
  pub abandons : Abandons old.waiting old new
  pub none_waits : new.waiting ≡ []

-- All that waited are dropped as abandoned, and the sink was given all names: those of the ledgers,
-- the oldest first, and then those of these spans, in order. The ledgers have none any more.
pub record GivesUp (old new : Desk) (named named' : Option Named) : Type 0 where
  pub left : Desk
  pub abandons : AbandonsWaiting old left
  pub given : GainsNames (both_names
      (reverse old.ledger ++ map (entry_of Reason.abandoned) old.waiting)
      (reverse old.lost)) named named'
  pub new_is : new ≡ record left { ledger = []; lost = [] }
