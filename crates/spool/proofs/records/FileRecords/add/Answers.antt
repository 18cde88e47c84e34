use Rattle.std.proofs.Common.{◌∙◌, arith}
use Rattle.spool.specs.Records.{bodies}
use Rattle.spool.specs.Reading.{read_of}
use Rattle.spool.proofs.ScanLaws.{read-adds, unread-most}
use Rattle.spool.proofs.records.FileRecords.add.Goals as goal

pub returns-clause-read : goal.returns-clause-read
returns-clause-read c = λ bytes left was entry.
    let old = c.args.self.now in
    let e = c.args.entry.now in
    let p = c.place_after-place.ensures in
    read-adds bytes left e.content.now e.after.now e.checks old _ was entry
    (λ next. p.ends (bodies (read_of e.checks e.content.now)) next c.kept_by-kept.ensures)
    p.few p.within
    (omega (arith, c.max-self.ensures, c.noted_by.ensures))
    (omega (arith, c.unread.ensures))
    (unread-most e.checks e.content.now)
