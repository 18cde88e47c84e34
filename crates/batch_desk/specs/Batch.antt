-- What a contract sees of a `Batch`, of a `NamedBatch` and of a `SettledBatch`.
use Rattle.std.specs.Prelude.{ℕ, List, map}
use Rattle.model_span.specs.Spans.{SpanData}
use Rattle.model_span.specs.Dropped.{Entry, Reason, entry_of}
use Rattle.model_desk.specs.Retries.{Fate}
use Rattle.model_desk.specs.Queue.{lost_names}

-- its number, its spans in queue order, and how many it has room for
pub record BatchView : Type 0 where
  pub number : ℕ
  pub spans : List SpanData
  pub room : ℕ

-- its number, the names of its spans in queue order, why they are dropped, and how many it had
-- room for
pub record NamedView : Type 0 where
  pub number : ℕ
  pub entries : List Entry
  pub reason : Reason
  pub room : ℕ

-- this batch, its spans named as dropped for this reason
abbrev pub named_batch : Reason → BatchView → NamedView
named_batch reason batch = record {
  number = batch.number;
  entries = map (entry_of reason) batch.spans;
  reason = reason;
  room = batch.room;
}

-- its number, the names of its spans in queue order where they are lost, how it ended, and how many
-- it had room for
pub record SettledView : Type 0 where
  pub number : ℕ
  pub entries : List Entry
  pub fate : Fate
  pub room : ℕ

-- this batch, its spans named where they are lost by this fate
abbrev pub settled_batch : Fate → BatchView → SettledView
settled_batch fate batch = record {
  number = batch.number;
  entries = lost_names fate batch.spans;
  fate = fate;
  room = batch.room;
}
