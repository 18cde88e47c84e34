use Rattle.relay_service.proofs.show.Viewer.show_stats.Goals as goal

pub returns : goal.returns
returns g c = (
  c.report-report.result,
  c.in_ok-body.body.items,
  c.report-report.ensures,
  c.in_ok-body.ensures,
  c.in_ok-fill_page.ensures,
)
