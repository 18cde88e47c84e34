-- What it means that parts of a request are kept.
use Rattle.std.specs.Prelude.{◌≡◌, ℕ, ◌+◌, List, MatchOption, None, Option, Some, nat_eq}
use Rattle.std.specs.List.{AllZip}
use Rattle.std.specs.Map.{lookup}
use Rattle.std.specs.List.Sorted.{IsPermutation}
use Rattle.trace_store.specs.Stores.{AreNewest, AreWhole, Evicts, HasRoom, MakesRoom}
use Rattle.trace_store.specs.Stores.{Store}
use Rattle.trace_store.specs.Traces.{span_count, with_parts}

-- A store had room for parts and has received them: it keeps each of their traces whole, and with
-- these the newest others within its limits. Those that went are counted and named.
pub record KeepsParts {S : Type 0} (size : S → ℕ) (old : Store S) (parts : List (ℕ × List S))
    (new : Store S) : Type 0 where
  pub room : HasRoom size old parts
  pub received : new.kept.received ≡ old.kept.received + span_count parts
  pub order : List (ℕ × List S)
  pub is_order : IsPermutation parts order
  pub newest : AreNewest size old.max_spans old.max_bytes (with_parts old.kept.traces order)
      new.kept.traces
  pub named : Evicts (with_parts old.kept.traces order) old.kept new.kept
  pub whole : AreWhole parts (with_parts old.kept.traces order) new.kept.traces
  pub max_spans : new.max_spans ≡ old.max_spans
  pub max_bytes : new.max_bytes ≡ old.max_bytes

-- A store has no room for parts.
abbrev pub LacksRoom : {S : Type 0} → (S → ℕ) → Store S → List (ℕ × List S) → Type 0
LacksRoom size store parts = ¬ HasRoom size store parts

-- A store gave up the oldest traces, as few as take this many bytes; all, where they don't. Those
-- that went are counted and named.
pub record GivesUp {S : Type 0} (size : S → ℕ) (old : Store S) (bytes : ℕ) (new : Store S)
    : Type 0 where
  pub room : MakesRoom size bytes old.kept.traces new.kept.traces
  pub named : Evicts old.kept.traces old.kept new.kept
  pub received : new.kept.received ≡ old.kept.received
  pub max_spans : new.max_spans ≡ old.max_spans
  pub max_bytes : new.max_bytes ≡ old.max_bytes

-- Of a trace that a store keeps, copies of its spans are lent, in the order in which they came; and
-- nothing of any other.
abbrev pub LendsCopies : {S : Type 0} → (S → S → Type 0) → Store S → ℕ → Option (List S) → Type 0
LendsCopies {S} is_clone store trace found = MatchOption found
    (lookup (nat_eq trace) store.kept.traces ≡ None)
    (λ copies. (spans : List S) × (lookup (nat_eq trace) store.kept.traces ≡ Some spans)
    × AllZip is_clone spans copies)
