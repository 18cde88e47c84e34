use Rattle.http_exporter.proofs.CompressedLemmas.{gzip_attempt}
use Rattle.http_exporter.proofs.compressed.CompressedExporterReportsFailure.attempt.Goals as goal

pub returns-in-Some-clause-outcome : goal.returns-in-Some-clause-outcome
returns-in-Some-clause-outcome g c =
    let kept = c.keep-is_kept.ensures in
    let sent = c.send_file.ensures.sent in
    rw (← c.self.view_is)
    (gzip_attempt g.E.ReportsFailure.attempts g.E.CodesBodies.coded c.args.body.now
    c.self.inside.exporter sent.0 c.send_file.new.exporter c.self.inside.is_on c.self.inside.kept
    c.keep-is_kept.new.kept c.in-Some.kept c.file.result.now _ c.in-Some.is
    (kept.on c.if-is_kept.true) (kept.some c.if-is_kept.true)
    (λ f on was. (kept.same f on was).1) c.file.ensures.value c.file.ensures.is_file sent.1 sent.2)
