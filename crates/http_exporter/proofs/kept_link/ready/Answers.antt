use Rattle.std.proofs.Common.{refl, subst}
use Rattle.http_exporter.specs.Kept.{renewed, spent}
use Rattle.http_exporter.proofs.kept_link.ready.Goals as goal

pub returns-then-renew : goal.returns-then-renew
returns-then-renew g c =
    renewed c.in-Some.link c.renew.new.self c.in-Some.is
    (subst (λ b. g.L.KeptLink.renews c.in-Some.link b c.renew.new.self) c.if-renew.true
    c.renew.ensures)
    refl

pub returns-else-renew : goal.returns-else-renew
returns-else-renew g c =
    spent c.in-Some.link c.renew.new.self c.in-Some.is
    (subst (λ b. g.L.KeptLink.renews c.in-Some.link b c.renew.new.self) c.if-renew.false
    c.renew.ensures)
    refl
