use Rattle.std.proofs.Common.{◌++◌, ◌∙◌, ap, arith, sym}
use Rattle.lru.specs.LruCache.{lru_cache}
use Rattle.trace_store.specs.Traces.{with_parts}
use Rattle.trace_store.proofs.PartLemmas.{partway_count, with_parts_append}
use Rattle.trace_store.proofs.parts.add_all.Goals as goal

pub add_others-requires-clause-fits : goal.add_others-requires-clause-fits
add_others-requires-clause-fits g c =
    omega (
      arith,
      partway_count c.args.traces.now.entries c.args.parts.items c.add_new.new.traces.entries
          c.in_ok-others.others.items c.in_ok-others.ensures.ok,
      c.requires,
    )

pub returns-clause-ok : goal.returns-clause-ok
returns-clause-ok g c =
    let way = c.in_ok-others.ensures.ok in
    let others = c.in_ok-others.others.items in (
      way.added ++ others,
      way.order,
      c.add_others.ensures
          ∙ ap (λ x. lru_cache (with_parts x others) c.add_new.new.traces.cap) way.are_added
          ∙ ap (λ x. lru_cache x c.add_new.new.traces.cap)
          (sym (with_parts_append c.args.traces.now.entries way.added others))
          ∙ ap (λ x. lru_cache (with_parts c.args.traces.now.entries (way.added ++ others)) x)
          c.in_ok-others.ensures.cap,
    )
