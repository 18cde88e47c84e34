use Rattle.std.proofs.Common.{◌++◌, ◌∷◌, [], subst}
use Rattle.otlp_receiver.specs.Pages.{IsPage}
use Rattle.otlp_receiver.specs.declared.reply.format.Format.TheVariants as formats
use Rattle.relay_service.specs.Shows.{health_code, health_words, refuses}
use Rattle.relay_service.proofs.show.Viewer.show_health.Goals as goal

pub returns : goal.returns
returns g c = (
  c.report-report.result,
  c.report-report.ensures,
  subst (λ failed. IsPage (health_code failed (refuses c.report-report.result)) formats.Text
      (health_words failed (refuses c.report-report.result) ++ 10 ∷ [])
      c.fill_health.new.response)
      c.either-has_failed.ensures c.in_ok-fill_health.ensures,
)
