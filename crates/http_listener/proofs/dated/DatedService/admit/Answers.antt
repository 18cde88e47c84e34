use Rattle.http_listener.proofs.dated.DatedService.admit.Goals as goal

pub returns-clause-ok : goal.returns-clause-ok
returns-clause-ok g c =
    let rejected = rw c.if-branch.false at c.in_ok-admit.ensures.ok in
    (c.admit.new.response, rejected, c.say.ensures)
