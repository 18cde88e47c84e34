use Rattle.std.proofs.Common.{◌<◌, ◌∙◌, ap, arith, length}
use Rattle.lru.specs.LruCache.{lru_cache}
use Rattle.trace_store.proofs.Puts.{put_absent}
use Rattle.trace_store.proofs.traces.put_new.Goals as goal

pub returns-clause-ok : goal.returns-clause-ok
returns-clause-ok g c =
    let valid = c.len.ensures.valid.1 in
    let room : length c.args.traces.now.entries < c.args.traces.now.cap = omega arith in
    c.in_ok-put.ensures.entries
    ∙ ap (λ x. lru_cache x c.args.traces.now.cap)
    (put_absent c.args.traces.now c.args.trace c.args.spans c.requires room).0
