use Rattle.std.proofs.Common.{sym}
use Rattle.spool.proofs.ScanLaws.{read-body}
use Rattle.spool.proofs.records.kept_by.Goals as goal

pub returns-then-has_body : goal.returns-then-has_body
returns-then-has_body c =
    read-body c.args.checks c.args.content.now c.if-checks.true (sym c.if-has_body.ensures)
