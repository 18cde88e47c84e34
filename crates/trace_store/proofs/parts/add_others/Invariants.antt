use Rattle.std.proofs.Common.{◌≡◌, ◌+◌, ◌<◌, ◌^◌, ◌++◌}
use Rattle.lru.specs.LruCache.{lru_cache}
use Rattle.trace_store.specs.Parts.{AreThere}
use Rattle.trace_store.specs.Traces.{span_count, with_parts}
use Rattle.trace_store.proofs.parts.add_others.Given as goal

-- the parts so far were added, and the traces of the others are there
abbrev pub invariant-loop-trace : goal.invariant-loop-trace
invariant-loop-trace g l = record {
  rest : l.yielded ++ l.trace-iterator.rest.items ≡ l.fn.parts.items;
  added : l.traces ≡ lru_cache (with_parts l.fn.traces.entries l.yielded) l.fn.traces.cap;
  there : AreThere l.traces.entries l.trace-iterator.rest.items;
  fits : span_count l.traces.entries + span_count l.trace-iterator.rest.items < 2 ^ 63;
}
