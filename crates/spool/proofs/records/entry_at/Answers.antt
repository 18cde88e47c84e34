use Rattle.spool.proofs.RecordLaws.{read-none}
use Rattle.spool.proofs.ScanLaws.{entry-checks, entry-skipped}
use Rattle.spool.proofs.records.entry_at.Goals as goal

pub returns-in-Some : goal.returns-in-Some
returns-in-Some c =
    let h = c.in-Some.ensures in
    entry-checks c.args.bytes.now c.in-Some.content.now c.in-Some.after.now h.0 h.1 h.2

pub returns-in_default-skipped_at : goal.returns-in_default-skipped_at
returns-in_default-skipped_at c =
    read-none c.args.bytes.now c.in_default.ensures c.in_default-skipped_at.ensures

pub returns : goal.returns
returns c =
    let h = c.in-Some-skipped_at.ensures in
    entry-skipped c.args.bytes.now c.in-Some-skipped_at.content.now
    c.in-Some-skipped_at.after.now c.in_default.ensures h.0 h.1 h.2
