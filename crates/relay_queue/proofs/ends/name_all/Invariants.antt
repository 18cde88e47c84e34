use Rattle.std.proofs.Common.{take, flat_map}
use Rattle.model_body.specs.Names.{names_in}
use Rattle.retry_core.specs.Retries.{fate_view}
use Rattle.relay_queue.specs.Bodies.{bodies_view}
use Rattle.relay_queue.specs.Named.{Gains}
use Rattle.relay_queue.proofs.ends.name_all.Given as goal

-- the names of the bodies below the index are given
abbrev pub invariant-loop-body : goal.invariant-loop-body
invariant-loop-body g l =
    let named = g.S.LostSink.named in
    Gains (flat_map (names_in (fate_view l.fate)) (bodies_view (take l.body-index l.bodies)))
    (named l.fn.sink) (named l.sink)
