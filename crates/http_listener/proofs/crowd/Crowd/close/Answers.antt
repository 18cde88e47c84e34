use Rattle.std.proofs.Common.{arith, rules}
use Rattle.std.proofs.lemmas.Grind.{common_steps}
use Rattle.http_listener.proofs.Counting.{counts-closed}
use Rattle.http_listener.proofs.crowd.Crowd.close.Goals as goal

pub returns-in-Some-clause-held : goal.returns-in-Some-clause-held
returns-in-Some-clause-held g c others was fits =
    counts-closed _ _ c.in-Some.peer _ c.held.result others _
    (first_of (search rules, grind (arith, common_steps))) c.try_remove.ensures.updates.changed
    c.held.ensures c.change.ensures.held was fits
