-- What a store of traces is.
use Rattle.std.specs.Prelude.{◌≡◌, ◌⊎◌, ℕ, ◌+◌, ◌-◌, ◌^◌, ◌<◌, ◌≤◌, List, [], ◌∷◌, ◌++◌, length}
use Rattle.std.specs.Prelude.{All, Some, min, nat_eq, reverse}
use Rattle.std.specs.Map.{lookup}
use Rattle.circular_buffer.specs.Buffer.{keep_last}
use Rattle.trace_store.specs.Traces.{byte_count, joined_traces, span_count, spans_of, traces_of}

-- The traces that are kept, the newest first; how many spans were received, and how many of them
-- were evicted; how many traces were evicted, and which ones last, in the order in which they went.
pub record Kept (S : Type 0) : Type 0 where
  pub traces : List (ℕ × List S)
  pub received : ℕ
  pub evicted : ℕ
  pub evicted_traces : ℕ
  pub last_evicted : List ℕ

-- The same, and how many spans and bytes are kept at most.
pub record Store (S : Type 0) : Type 0 where
  pub kept : Kept S
  pub max_spans : ℕ
  pub max_bytes : ℕ

-- Each span that was received is kept or was evicted.
abbrev pub IsAccounted : {S : Type 0} → Kept S → Type 0
IsAccounted kept = kept.received ≡ span_count kept.traces + kept.evicted

-- Traces are within a bound on their spans and one on the bytes of these.
pub record AreWithin {S : Type 0} (size : S → ℕ) (spans bytes : ℕ) (traces : List (ℕ × List S))
    : Type 0 where
  pub spans_fit : span_count traces ≤ spans
  pub bytes_fit : byte_count size traces ≤ bytes

-- A store has room for parts: the traces that they have spans of, each as it is with them, are
-- together within its limits. (profile)
abbrev pub HasRoom : {S : Type 0} → (S → ℕ) → Store S → List (ℕ × List S) → Type 0
HasRoom size store parts =
    AreWithin size store.max_spans store.max_bytes (joined_traces store.kept.traces parts)

-- Each trace that parts have spans of is kept, with every span that it has among all traces.
abbrev pub AreWhole : {S : Type 0} → List (ℕ × List S) → List (ℕ × List S) → List (ℕ × List S)
    → Type 0
AreWhole parts all kept =
    All (λ part. lookup (nat_eq part.0) kept ≡ Some (spans_of all part.0)) parts

-- These are the newest of all traces, and with the next one, if there is one, they would not be
-- within the bounds.
pub record AreNewest {S : Type 0} (size : S → ℕ) (spans bytes : ℕ) (all newest : List (ℕ × List S))
    : Type 0 where
  pub older : List (ℕ × List S)
  pub split : all ≡ newest ++ older
  pub needed : (next : ℕ × List S) (others : List (ℕ × List S)) → older ≡ next ∷ others
      → ¬ AreWithin size spans bytes (newest ++ next ∷ [])

-- At most 1,000 of the traces that went are named, and 2^64 - 1 counted.
abbrev pub IsBounded : {S : Type 0} → Kept S → Type 0
IsBounded kept = (length kept.last_evicted ≤ 1000) × (kept.evicted_traces ≤ 2 ^ 64 - 1)

-- These traces went, the first of them last. They are counted, and the last 1,000 of all that went
-- are named.
pub record AreNamed {S : Type 0} (old new : Kept S) (older : List (ℕ × List S)) : Type 0 where
  pub count : new.evicted_traces ≡ min (old.evicted_traces + length older) (2 ^ 64 - 1)
  pub names : new.last_evicted
      ≡ keep_last 1000 (old.last_evicted ++ reverse (traces_of older))

-- Of all traces those that aren't kept went.
pub record Evicts {S : Type 0} (all : List (ℕ × List S)) (old new : Kept S) : Type 0 where
  pub older : List (ℕ × List S)
  pub split : all ≡ new.traces ++ older
  pub named : AreNamed old new older

-- These are the newest of all traces: the older ones take at least this many bytes together, or
-- none is left. With one trace fewer they would take less.
pub record MakesRoom {S : Type 0} (size : S → ℕ) (bytes : ℕ) (all newest : List (ℕ × List S))
    : Type 0 where
  pub older : List (ℕ × List S)
  pub split : all ≡ newest ++ older
  pub enough : (bytes ≤ byte_count size older) ⊎ (newest ≡ [])
  pub needed : (next : ℕ × List S) (others : List (ℕ × List S)) → older ≡ next ∷ others
      → byte_count size others < bytes
