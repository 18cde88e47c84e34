use Rattle.trace_store.proofs.Sums.{oldest_of}
use Rattle.trace_store.proofs.traces.take_oldest.Goals as goal

pub returns : goal.returns
returns g c =
    oldest_of c.args.traces.now c.pop_lru.new.self c.pop_lru.result c.pop_lru.ensures.value
    c.pop_lru.ensures.entries
