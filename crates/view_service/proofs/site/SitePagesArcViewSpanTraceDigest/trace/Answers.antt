use Rattle.std.proofs.Common.{subst, sym}
use Rattle.view_service.specs.Drawn.{Draws}
use Rattle.view_service.proofs.site.SitePagesArcViewSpanTraceDigest.trace.Goals as goal

pub returns-in-Text : goal.returns-in-Text
returns-in-Text c bytes is =
    subst (λ f. Draws f c.args.trace c.args.spans.items bytes) (sym c.in-Text.is)
    (c.text_of.ensures bytes is)
