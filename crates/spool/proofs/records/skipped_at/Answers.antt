use Rattle.std.proofs.Common.{sym, ◌∙◌, ap}
use Rattle.spool.specs.Records.{is_record_at}
use Rattle.spool.proofs.RecordLaws.{skipped}
use Rattle.spool.proofs.ScanLaws.{no-skip, no-next}
use Rattle.spool.proofs.records.skipped_at.Goals as goal

pub returns-in_default : goal.returns-in_default
returns-in_default c = no-skip c.args.bytes.now c.in_default.ensures

pub returns-in_default-record_at : goal.returns-in_default-record_at
returns-in_default-record_at c =
    no-next c.args.bytes.now
    (sym (ap is_record_at c.in-Some.ensures.3) ∙ c.in_default-record_at.ensures)

pub returns : goal.returns
returns c =
    let h = c.in-Some.ensures in (
      skipped c.args.bytes.now (record {
        some = h.0.some;
        next = sym (ap is_record_at h.3) ∙ c.in-Some-record_at.ensures.0;
      }),
      h.2,
      h.3,
    )
