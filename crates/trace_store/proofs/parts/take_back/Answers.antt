use Rattle.std.proofs.Common.{◌∙◌, ap}
use Rattle.std.proofs.lemmas.List.{drop-drop}
use Rattle.lru.specs.LruCache.{lru_cache}
use Rattle.std.proofs.Common.{drop}
use Rattle.trace_store.proofs.parts.take_back.Goals as goal

pub loop-preserved : goal.loop-preserved
loop-preserved g c =
    c.pop_mru.ensures.entries
    ∙ ap (λ x. lru_cache (drop 1 x.entries) x.cap) c.loop.invariant
    ∙ ap (λ x. lru_cache x c.args.traces.now.cap)
    (drop-drop 1 c.loop.counter c.args.traces.now.entries)
