-- Stores of the worked values, written out.
use Rattle.std.specs.Prelude.{ℕ, List, []}
use Rattle.trace_store.specs.Stores.{Store}
use Rattle.trace_store.specs.Traces.{span_count}

-- a store that keeps these traces, and so many spans and bytes at most
abbrev pub store_of : List (ℕ × List ℕ) → ℕ → ℕ → Store ℕ
store_of traces spans bytes = record {
  kept = record {
    traces = traces;
    received = span_count traces;
    evicted = 0;
    evicted_traces = 0;
    last_evicted = [];
  };
  max_spans = spans;
  max_bytes = bytes;
}
