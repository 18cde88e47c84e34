use Rattle.trace_store.proofs.Placing.{kept_more, placed}
use Rattle.trace_store.proofs.apart.push_span.Goals as goal

pub returns : goal.returns
returns g c =
    kept_more c.args.found.now.items c.push.new.self.items c.args.trace c.in_ok-kept.kept _
    c.in_ok-push.ensures.items
    (placed c.in_ok-kept.kept c.args.span c.in_ok-resource.resource c.args.resource.now
    c.in_ok-scope.scope c.args.scope.now c.args.shared c.in_ok-kept.ensures.ok
    c.in_ok-resource.ensures c.in_ok-scope.ensures)
