use Rattle.std.proofs.Common.{sym, ◌∙◌, ap}
use Rattle.lru.specs.LruCache.{lru_cache}
use Rattle.trace_store.proofs.Puts.{none_there, ok_map, with_absent}
use Rattle.trace_store.proofs.traces.add.Goals as goal

pub put_new-requires : goal.put_new-requires
put_new-requires g c = none_there _ (sym c.contains.ensures ∙ c.if-contains.false)

pub returns-clause-ok : goal.returns-clause-ok
returns-clause-ok g c =
    ok_map _ _ c.put_new.result
    (λ put. put
    ∙ ap (λ x. lru_cache x c.args.traces.now.cap)
    (sym (with_absent c.args.traces.now.entries c.args.trace c.args.spans
    (none_there _ (sym c.contains.ensures ∙ c.if-contains.false)))))
    c.put_new.ensures.ok
