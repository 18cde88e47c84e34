use Rattle.std.proofs.Common.{subst}
use Rattle.otlp_receiver.specs.Pages.{IsPage}
use Rattle.otlp_receiver.specs.declared.reply.format.Format.TheVariants as formats
use Rattle.relay_service.proofs.show.Viewer.show_metrics.Goals as goal

pub returns : goal.returns
returns g c = (
  c.report-report.result,
  c.report-report.ensures,
  subst (λ body. IsPage 200 formats.Prometheus body c.fill_page.new.response) c.in_ok-body.ensures
      c.in_ok-fill_page.ensures,
)
