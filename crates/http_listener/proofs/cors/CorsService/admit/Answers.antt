use Rattle.std.proofs.Common.{refl}
use Rattle.http_listener.proofs.cors.CorsService.admit.Goals as goal

pub returns-clause-ok : goal.returns-clause-ok
returns-clause-ok g c =
    let rejected = rw c.if-branch.false at c.in_ok-admit.ensures.ok in
    (c.admit.new.response, rejected, c.allow.ensures, record { origins = refl; path = refl })
