use Rattle.std.proofs.Common.{◌≡◌, drop}
use Rattle.lru.specs.LruCache.{lru_cache}
use Rattle.trace_store.proofs.parts.take_back.Given as goal

-- as many traces were taken out as the loop had turns
abbrev pub invariant-loop : goal.invariant-loop
invariant-loop g l = l.traces ≡ lru_cache (drop l.counter l.fn.traces.entries) l.fn.traces.cap
